-- The signed part and the envelope are read exactly.
use Rattle.std.proofs.Common.{◌≡◌, ℕ, ◌≤◌, List, [], ◌∷◌, ◌++◌, length, drop, sym, refl, ap, ◌∙◌, arith}
use Rattle.std.proofs.lemmas.List.{append_assoc}
use Rattle.der.specs.Numbers.{Bytes}
use Rattle.der.specs.Encoding.{encoded}
use Rattle.der.specs.declared.refusal.Reason.TheVariants.{AlgorithmsDiffer}
use Rattle.reader.specs.declared.kind.Kind.{Kind}
use Rattle.reader.specs.declared.leaf.Leaf.TheVariants as leaf
use Rattle.reader.specs.Readers.{cut}
use Rattle.reader.specs.Leaves.{Signed as SignatureKept}
use Rattle.reader.proofs.Exact.{Exact, Anything, exact_inside, exact_both, exact_read, exact_spanned, exact_judged}
use Rattle.reader.proofs.LeafLaws.{exact_leaf}
use Rattle.reader.proofs.Labels.{same_decides}
use Rattle.envelope.specs.declared.envelope.EnvelopePlaces.{EnvelopePlaces}
use Rattle.envelope.specs.declared.signed.SignedPlaces.{SignedPlaces}
use Rattle.envelope.specs.Profile.{algorithm_bytes, holder_bytes, issuer_bytes, validity_bytes, attributes_bytes, extensions_bytes, Signed, KeptSigned, signed_bytes, Envelope, KeptEnvelope, envelope_bytes}
use Rattle.envelope.specs.Readings.{signed, signed_at, same_algorithm, envelope, envelope_at}
use Rattle.envelope.proofs.FieldLaws.{exact_issuer, ShowsReference, exact_holder, exact_algorithm, ShowsValidity, exact_validity}
use Rattle.envelope.proofs.ListLaws.{ShowsAttributes, exact_attributes, exact_extensions}

-- a signature's content is 00 and its bytes
first_zero : (c : List ℕ) → SignatureKept c → c ≡ 0 ∷ drop 1 c
first_zero [] g = let no : ⊥ = omega (arith, g.long) in absurd no
first_zero (x ∷ c) g = ap (λ (z : ℕ). z ∷ c) g.whole

behind_long : (c : List ℕ) → SignatureKept c → 1 ≤ length (drop 1 c)
behind_long [] g = let no : ⊥ = omega (arith, g.long) in absurd no
behind_long (x ∷ c) g = let l = g.long in omega arith

module _ (file : List ℕ) (typed : Bytes file) (kind : Kind) where
  pub record ShowsSigned (p : SignedPlaces) (s : Signed) : Type 0 where
    pub holder : ShowsReference file typed p.holder s.holder
    pub issuer : cut file p.issuer ≡ s.issuer
    pub algorithm : cut file p.algorithm ≡ algorithm_bytes s.algorithm
    pub serial : cut file p.serial ≡ s.serial
    pub validity : ShowsValidity file typed p.validity s.validity
    pub configuration : ShowsAttributes file typed kind p.configuration s.attributes

  exact_signed : Exact file Anything (signed_at kind) signed_bytes (KeptSigned kind) ShowsSigned
  unfolding signed_at
  exact_signed =
      exact_inside file typed 0x30 tt (exact_read file typed signed
      (exact_both file typed (exact_leaf file typed leaf.Version) (exact_both file typed (exact_holder file typed) (exact_both file typed (exact_issuer file typed) (exact_both file typed (exact_algorithm file typed)
      (exact_both file typed (exact_leaf file typed leaf.Serial) (exact_both file typed (exact_validity file typed) (exact_both file typed (exact_attributes file typed kind) (exact_extensions file typed))))))))
      (λ x. record { holder = x.1.0; issuer = x.1.1.0; algorithm = x.1.1.1.0; serial = x.1.1.1.1.0; validity = x.1.1.1.1.1.0; attributes = x.1.1.1.1.1.1.0; extensions = x.1.1.1.1.1.1.1 })
      (λ s. (1 ∷ [], (s.holder, (s.issuer, (s.algorithm, (s.serial, (s.validity, (s.attributes, s.extensions))))))))
      (λ x g. ap (λ (v : List ℕ). encoded 0x02 v ++ (holder_bytes x.1.0 ++ (issuer_bytes x.1.1.0 ++ (algorithm_bytes x.1.1.1.0 ++ (encoded 0x02 x.1.1.1.1.0 ++ (validity_bytes x.1.1.1.1.1.0 ++ (attributes_bytes x.1.1.1.1.1.1.0 ++ extensions_bytes x.1.1.1.1.1.1.1))))))) g.0)
      (λ s g. refl)
      (λ x g. record { holder = g.1.0; issuer = g.1.1.0; algorithm = g.1.1.1.0; serial = g.1.1.1.1.0; validity = g.1.1.1.1.1.0; attributes = g.1.1.1.1.1.1.0; extensions = g.1.1.1.1.1.1.1 })
      (λ s g. (refl, (g.holder, (g.issuer, (g.algorithm, (g.serial, (g.validity, (g.attributes, g.extensions))))))))
      (λ p x g w. record { holder = w.1.0; issuer = w.1.1.0; algorithm = w.1.1.1.0; serial = w.1.1.1.1.0; validity = w.1.1.1.1.1.0; configuration = w.1.1.1.1.1.1.0 })
      (λ p s g w. record { holder = w.1.0; issuer = w.1.1.0; algorithm = w.1.1.1.0; serial = w.1.1.1.1.0; validity = w.1.1.1.1.1.0; configuration = w.1.1.1.1.1.1.0 }))

  pub record ShowsEnvelope (p : EnvelopePlaces) (e : Envelope) : Type 0 where
    pub signed : cut file p.signed ≡ signed_bytes e.signed
    pub fields : ShowsSigned p.fields e.signed
    pub signature : cut file p.signature ≡ 0 ∷ e.signature

  pub exact_envelope : Exact file Anything (envelope_at kind) envelope_bytes (KeptEnvelope kind) ShowsEnvelope
  exact_envelope =
      let two = exact_both file typed (exact_spanned file typed exact_signed) (exact_algorithm file typed) in
      let judged = exact_judged file typed two same_algorithm AlgorithmsDiffer (λ _ p. p.1.from) {Holds = λ x. algorithm_bytes x.0.algorithm ≡ algorithm_bytes x.1} (λ p x w g.
      let d = same_decides (cut file p.0.1.algorithm) (cut file p.1) in
      (λ t. sym w.0.1.algorithm ∙ (d.0 t ∙ w.1), λ h. d.1 (w.0.1.algorithm ∙ (h ∙ sym w.1)))) in
      exact_inside file typed 0x30 tt (exact_read file typed envelope (exact_both file typed judged (exact_leaf file typed leaf.Signature))
      (λ x. record { signed = x.0.0; signature = drop 1 x.1 }) (λ e. ((e.signed, e.signed.algorithm), 0 ∷ e.signature))
      (λ x g.
      append_assoc (signed_bytes x.0.0) (algorithm_bytes x.0.1) (encoded 0x03 x.1)
      ∙ (ap (λ (z : List ℕ). signed_bytes x.0.0 ++ (z ++ encoded 0x03 x.1)) (sym g.0.1)
      ∙ ap (λ (z : List ℕ). signed_bytes x.0.0 ++ (algorithm_bytes x.0.0.algorithm ++ encoded 0x03 z)) (first_zero x.1 g.1)))
      (λ e g. sym (append_assoc (signed_bytes e.signed) (algorithm_bytes e.signed.algorithm) (encoded 0x03 (0 ∷ e.signature))))
      (λ x g. record { signed = g.0.0.0; signature = behind_long x.1 g.1 })
      (λ e g. (((g.signed, g.signed.algorithm), refl), record { long = (let l = g.signature in omega arith); whole = refl }))
      (λ p x g w. record { signed = w.0.0.0; fields = w.0.0.1; signature = w.1 ∙ first_zero x.1 g.1 })
      (λ p e g w. record { signed = w.0.0.0; fields = w.0.0.1; signature = w.1 }))
