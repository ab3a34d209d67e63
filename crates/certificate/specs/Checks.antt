-- The check of a certificate: the answer for every byte string, refusals included, in the order in which they come. Where
-- it says yes, it answers where things stand.
use Rattle.std.specs.Prelude.{ℕ, Bool, cond, List, length, Ok, Result, nat_lt}
use Rattle.der.specs.declared.refusal.Refusal.{Refusal}
use Rattle.der.specs.declared.refusal.Reason.TheVariants.{FileTooLong, NotVouched}
use Rattle.der.specs.Refusals.{refused, then}
use Rattle.reader.specs.declared.kind.Kind.{Kind}
use Rattle.der.specs.Elements.{ended}
use Rattle.reader.specs.Readers.{read}
use Rattle.envelope.specs.declared.envelope.EnvelopePlaces.{EnvelopePlaces}
use Rattle.envelope.specs.Readings.{envelope_at}
use Rattle.component.specs.declared.places.Components.{Components}
use Rattle.component.specs.Readings.{configuration_at, counted}
use Rattle.certificate.specs.declared.places.Places.{Places}

-- the most bytes of a certificate's file
abbrev pub most_bytes : ℕ
most_bytes = 32768

-- the envelope of a file that is not too long and has nothing behind it
abbrev pub envelope_of : Kind → List ℕ → Result EnvelopePlaces Refusal
envelope_of kind file =
    cond (nat_lt most_bytes (length file)) (refused FileTooLong 0)
    (then (envelope_at kind file 0 (length file)) (λ p. then (ended p.1 (length file)) (λ _. Ok p.0)))

-- the components, which are read last
abbrev pub components_of : Kind → List ℕ → EnvelopePlaces → Result Components Refusal
components_of kind file e =
    then (read counted (configuration_at kind) file e.fields.configuration.from e.fields.configuration.to) (λ p. Ok p.0)

-- the check
unfoldable pub checked : Kind → List ℕ → Result Places Refusal
checked kind file = then (envelope_of kind file) (λ e. then (components_of kind file e) (λ c. Ok (record { envelope = e; components = c })))

-- vouching is refused where the host said no
abbrev pub vouched : Bool → Result (Unit {0}) Refusal
vouched word = cond word (Ok tt) (refused NotVouched 0)
