-- Readers: from a place in an enclosing element to what stands there and what follows it, or a refusal.
use Rattle.std.specs.Prelude.{◌≡◌, ℕ, zero, suc, ◌<◌, Bool, cond, ◌&&◌, List, [], ◌∷◌, ◌++◌, take, Some, None, Ok, Err, Option, Result, IfOk, ◌==◌, nat_lt, slice_index}
use Rattle.std.specs.Str.{bytes_eq}
use Rattle.der.specs.declared.refusal.Refusal.{Refusal}
use Rattle.der.specs.declared.refusal.Reason.{Reason}
use Rattle.der.specs.declared.refusal.Reason.TheVariants.{ListSize}
use Rattle.der.specs.Refusals.{refused, then}
use Rattle.der.specs.Numbers.{part}
use Rattle.der.specs.Elements.{tagged_at, end_within, ended}
use Rattle.der.specs.declared.cursor.Cursor.{Cursor}
use Rattle.arrayvec.specs.ArrayVec.{ArrayVec}
use Rattle.reader.specs.declared.span.Span.{Span}

-- the bytes of a file where a span says
abbrev pub cut : List ℕ → Span → List ℕ
cut file s = part file s.from s.to

-- the same bytes
unfoldable pub same : List ℕ → List ℕ → Bool
same xs ys = bytes_eq xs ys

-- from a file, a place and the end of the enclosing element to what stands there and what follows it
abbrev pub Reader : Type 0 → Type 0
Reader X = List ℕ → ℕ → ℕ → Result (X × ℕ) Refusal

-- an answer, and what follows what was read
abbrev pub followed : {X : Type 0} → Result X Refusal → ℕ → Result (X × ℕ) Refusal
followed (Ok x) next = Ok (x, next)
followed (Err e) next = Err e

-- a cursor reads by a reader: it answers what the reader does and then stands at what follows, in the same file and the
-- same element; after a refusal its place means nothing
pub record Reads {X : Type 0} (reader : Reader X) (old new : Cursor) (result : Result X Refusal) : Type 0 where
  pub is : followed result new.at ≡ reader old.file.now old.at old.end
  pub file : new.file.now ≡ old.file.now
  pub end : new.end ≡ old.end

-- what was read lies in front of where the cursor stands now
abbrev pub Advances : {X : Type 0} → Cursor → Cursor → Result X Refusal → Type 0
Advances old new result = IfOk result (λ _. old.at < new.at)

-- an element with a tag that holds exactly what is read inside; the reader inside is told the place of the element
abbrev pub within : {X : Type 0} → ℕ → (ℕ → Reader X) → Reader X
within tag inner file at end =
    then (tagged_at file at end tag) (λ p. then (inner at file p.0 p.1) (λ q. then (ended q.1 p.1) (λ _. Ok (q.0, p.1))))

-- the same where that place does not matter
abbrev pub inside : {X : Type 0} → ℕ → Reader X → Reader X
inside tag inner = within tag (λ _. inner)

-- one behind the other; how the second is read may depend on what the first was
abbrev pub chain : {X Y : Type 0} → Reader X → (List ℕ → X → Reader Y) → Reader (X × Y)
chain first second file at end = then (first file at end) (λ p. then (second file p.0 file p.1 end) (λ q. Ok ((p.0, q.0), q.1)))

-- one behind the other
abbrev pub both : {X Y : Type 0} → Reader X → Reader Y → Reader (X × Y)
both first second = chain first (λ _ _. second)

-- what was read, in another form
abbrev pub read : {X Y : Type 0} → (X → Y) → Reader X → Reader Y
read f reader file at end = then (reader file at end) (λ p. Ok (f p.0, p.1))

-- the same where the form depends on the file
abbrev pub read_in : {X Y : Type 0} → (List ℕ → X → Y) → Reader X → Reader Y
read_in f reader file at end = then (reader file at end) (λ p. Ok (f file p.0, p.1))

-- what was read, and where it stands as a whole
abbrev pub spanned : {X : Type 0} → Reader X → Reader (Span × X)
spanned reader file at end = then (reader file at end) (λ p. Ok ((record { from = at; to = p.1 }, p.0), p.1))

-- what was read is tested, and refused at a place that it names where it does not pass
abbrev pub judged : {X : Type 0} → (List ℕ → X → Bool) → Reason → (ℕ → X → ℕ) → Reader X → Reader X
judged test why place reader file at end = then (reader file at end) (λ p. cond (test file p.0) (Ok p) (refused why (place at p.0)))

-- what stands there only where its tag does
abbrev pub perhaps : {X : Type 0} → ℕ → Reader X → Reader (Option X)
perhaps tag reader file at end = cond (nat_lt at (end_within file end) && slice_index file at == tag) (then (reader file at end) (λ p. Ok (Some p.0, p.1))) (Ok (None, at))

-- what stands there only where anything is left
abbrev pub unless_ended : {X : Type 0} → Reader X → Reader (Option X)
unless_ended reader file at end = cond (nat_lt at end) (then (reader file at end) (λ p. Ok (Some p.0, p.1))) (Ok (None, at))

-- entries up to the end, at most so many more; each is read with those before it at hand
abbrev pub entries_at : {X : Type 0} → (List X → Reader X) → ℕ → ℕ → List X → List ℕ → ℕ → ℕ → Result (List X) Refusal
entries_at entry list zero seen file at end = cond (nat_lt at end) (refused ListSize list) (Ok seen)
entries_at entry list (suc left) seen file at end =
    cond (nat_lt at end) (then (entry seen file at end) (λ p. entries_at entry list left (seen ++ p.0 ∷ []) file p.1 end)) (Ok seen)

-- a list: an element with a tag that holds entries, at least one and at most so many
abbrev pub list_at : {X : Type 0} → ℕ → ℕ → (List X → Reader X) → Reader (List X)
list_at tag most entry file at end =
    then (tagged_at file at end tag) (λ p.
    cond (nat_lt p.0 p.1) (then (entries_at entry at most [] file p.0 p.1) (λ xs. Ok (xs, p.1))) (refused ListSize at))

-- the entries in a space, of which so many were filled
abbrev pub filled : {X : Type 0} → Result ℕ Refusal → List X → Result (List X) Refusal
filled (Ok n) xs = Ok (take n xs)
filled (Err e) xs = Err e

-- the entries that were read of a list
abbrev pub entries_of : {X : Type 0} → Result (ArrayVec X) Refusal → Result (List X) Refusal
entries_of (Ok xs) = Ok xs.items
entries_of (Err e) = Err e
