-- Elements that may be missing are read exactly, where what follows cannot be taken for them.
use Rattle.std.proofs.Common.{◌≡◌, ℕ, ◌+◌, ◌<◌, ◌≤◌, Bool, true, false, cond, ◌&&◌, ◌||◌, eqb, ltb, List, [], ◌∷◌, ◌++◌, length, get_or, Some, None, Ok, Option, Result, sym, refl, ap, ◌∙◌, subst, inl, inr, arith}
use Rattle.std.proofs.lemmas.Bool.{cases_lt, lt-ltb, le-ltb, ne_eqb, eq-eqb, false≢true}
use Rattle.der.specs.declared.refusal.Refusal.{Refusal}
use Rattle.der.specs.Refusals.{then}
use Rattle.der.specs.Numbers.{Bytes, part}
use Rattle.der.specs.Elements.{end_within}
use Rattle.der.specs.Encoding.{length_bytes, encoded}
use Rattle.der.proofs.Parts.{part_more, part_none}
use Rattle.reader.specs.declared.span.Span.{Span}
use Rattle.reader.specs.declared.leaf.Leaf.{Leaf}
use Rattle.reader.specs.Readers.{Reader, cut, both, perhaps, unless_ended}
use Rattle.reader.specs.Leaves.{tag_of, Kept, leaf_at}
use Rattle.reader.specs.Syntax.{perhaps_bytes, WhereThere}
use Rattle.reader.proofs.Exact.{Exact, Anything, Nothing, Sound, Complete, then_into, then_made, sound_as, over, exact_weaker, exact_chain}
use Rattle.reader.proofs.LeafLaws.{exact_leaf}

-- bytes do not begin with a tag
abbrev pub NotFirst : ℕ → List ℕ → Type 0
NotFirst tag [] = Unit {0}
NotFirst tag (b ∷ bs) = b ≡ tag → ⊥

-- what an answer shows of something that may be missing
abbrev pub PerhapsShows : {P X : Type 0} → (P → X → Type 0) → Option P → Option X → Type 0
PerhapsShows Shows None None = Unit {0}
PerhapsShows Shows None (Some x) = ⊥
PerhapsShows Shows (Some p) None = ⊥
PerhapsShows Shows (Some p) (Some x) = Shows p x

-- the first byte that is left
first_byte : (file : List ℕ) (at end b : ℕ) (bs : List ℕ) → end ≤ length file → part file at end ≡ b ∷ bs → (at < end) × (get_or file at 0 ≡ b)
first_byte file at end b bs l e = elim (cases_lt at end) [
  | inl h ↦ (h, (let m = part_more file at end h l in let g : get_or file at 0 ∷ part file (at + 1) end ≡ b ∷ bs = sym m ∙ e in ap (λ (z : List ℕ). get_or z 0 0) g))
  | inr h ↦ (let z : ◌≡◌ {A = List ℕ} [] (b ∷ bs) = sym (part_none file at end h) ∙ e in let no : ⊥ = omega (arith, ap length z) in absurd no)
]

tested : (file : List ℕ) (at end tag : ℕ) → end ≤ length file → at < end → get_or file at 0 ≡ tag → (ltb at (end_within file end) && eqb (get_or file at 0) tag) ≡ true
tested file at end tag l h e = let k : at < end_within file end = omega arith in rw (lt-ltb at (end_within file end) k, eq-eqb (get_or file at 0) tag e) refl

not_tested : (file : List ℕ) (at end tag : ℕ) → end ≤ length file → NotFirst tag (part file at end) → (ltb at (end_within file end) && eqb (get_or file at 0) tag) ≡ false
not_tested file at end tag l n = elim (cases_lt at end) [
  | inl h ↦ (let m = part_more file at end h l in let ne : get_or file at 0 ≡ tag → ⊥ = subst (NotFirst tag) m n in let k : at < end_within file end = omega arith in rw (lt-ltb at (end_within file end) k, ne_eqb (get_or file at 0) tag ne) refl)
  | inr h ↦ (let k : end_within file end ≤ at = omega arith in rw (le-ltb at (end_within file end) k) refl)
]

module _ (file : List ℕ) (typed : Bytes file) where
  module _ {P X : Type 0} {r : Reader P} {bytes : X → List ℕ} {Good : X → Type 0} {Shows : P → X → Type 0} (exact : Exact file Anything r bytes Good Shows) where
    some_sound : (at end : ℕ) (p : Option P) (next : ℕ) → at ≤ end → end ≤ length file → then {Y = Option P × ℕ} (r file at end) (λ p. Ok (Some p.0, p.1)) ≡ Ok (p, next) → Sound file (perhaps_bytes bytes) (WhereThere Good) (PerhapsShows Shows) at end p next
    some_sound at end p next h l e =
        then_into (r file at end) _ (p, next) e (λ u eu e1.
        let i = exact.sound at end u.0 u.1 h l eu in
        sound_as (Some u.0) p u.1 next e1 (record {
          syntax = Some i.syntax;
          stands = i.stands;
          good = i.good;
          shows = i.shows;
          forward = i.forward;
          within = i.within;
        }))

    none_sound : (at end : ℕ) (p : Option P) (next : ℕ) → at ≤ end → ◌≡◌ {A = Result (Option P × ℕ) Refusal} (Ok (None, at)) (Ok (p, next)) → Sound file (perhaps_bytes bytes) (WhereThere Good) (PerhapsShows Shows) at end p next
    none_sound at end p next h e = sound_as None p at next e (record { syntax = None; stands = refl; good = tt; shows = tt; forward = omega arith; within = h })

    by_test : (b : Bool) (at end : ℕ) (p : Option P) (next : ℕ) → at ≤ end → end ≤ length file → cond b (then {Y = Option P × ℕ} (r file at end) (λ p. Ok (Some p.0, p.1))) (Ok (None, at)) ≡ Ok (p, next) → Sound file (perhaps_bytes bytes) (WhereThere Good) (PerhapsShows Shows) at end p next
    by_test true at end p next h l e = some_sound at end p next h l e
    by_test false at end p next h l e = none_sound at end p next h e

    -- one that is told by its tag
    module _ (tag : ℕ) (begins : (x : X) → (bs : List ℕ) × (bytes x ≡ tag ∷ bs)) where
      perhaps_complete : (at end : ℕ) (x : Option X) (rest : List ℕ) → at ≤ end → end ≤ length file → part file at end ≡ perhaps_bytes bytes x ++ rest → NotFirst tag rest → WhereThere Good x → Complete file (perhaps tag r) (PerhapsShows Shows) at end x rest
      perhaps_complete at end None rest h l e may good =
          let t = not_tested file at end tag l (subst (NotFirst tag) (sym e) may) in
          record { answer = None; next = at; was = rw t refl; shows = tt; forward = omega arith; within = h; after = e }
      perhaps_complete at end (Some x) rest h l e may good =
          let f = first_byte file at end tag ((begins x).0 ++ rest) l (e ∙ ap (λ (z : List ℕ). z ++ rest) (begins x).1) in
          let t = tested file at end tag l f.0 f.1 in
          let i = exact.complete at end x rest h l e tt good in
          record {
            answer = Some i.answer;
            next = i.next;
            was = rw t (then_made (r file at end) _ (i.answer, i.next) _ i.was refl);
            shows = i.shows;
            forward = i.forward;
            within = i.within;
            after = i.after;
          }

      pub exact_perhaps : Exact file (NotFirst tag) (perhaps tag r) (perhaps_bytes bytes) (WhereThere Good) (PerhapsShows Shows)
      exact_perhaps = record { sound = λ at end p next h l e. by_test (ltb at (end_within file end) && eqb (get_or file at 0) tag) at end p next h l e; complete = perhaps_complete }

    -- one that stands where anything is left
    module _ (some : (x : X) → (b : ℕ) × ((bs : List ℕ) × (bytes x ≡ b ∷ bs))) where
      last_complete : (at end : ℕ) (x : Option X) (rest : List ℕ) → at ≤ end → end ≤ length file → part file at end ≡ perhaps_bytes bytes x ++ rest → Nothing rest → WhereThere Good x → Complete file (unless_ended r) (PerhapsShows Shows) at end x rest
      last_complete at end None rest h l e may good =
          let k : end ≤ at = over file at end l (e ∙ may) in
          record { answer = None; next = at; was = rw (le-ltb at end k) refl; shows = tt; forward = omega arith; within = h; after = e }
      last_complete at end (Some x) rest h l e may good =
          let f = first_byte file at end (some x).0 ((some x).1.0 ++ rest) l (e ∙ ap (λ (z : List ℕ). z ++ rest) (some x).1.1) in
          let i = exact.complete at end x rest h l e tt good in
          record {
            answer = Some i.answer;
            next = i.next;
            was = rw (lt-ltb at end f.0) (then_made (r file at end) _ (i.answer, i.next) _ i.was refl);
            shows = i.shows;
            forward = i.forward;
            within = i.within;
            after = i.after;
          }

      pub exact_unless_ended : Exact file Nothing (unless_ended r) (perhaps_bytes bytes) (WhereThere Good) (PerhapsShows Shows)
      exact_unless_ended = record { sound = λ at end p next h l e. by_test (ltb at end) at end p next h l e; complete = last_complete }

-- an element begins with its tag
pub encoded_begins : (tag : ℕ) (c : List ℕ) → (bs : List ℕ) × (encoded tag c ≡ tag ∷ bs)
unfolding encoded
encoded_begins tag c = (length_bytes (length c) ++ c, refl)

-- one of these tags
abbrev pub among : ℕ → List ℕ → Bool
among b [] = false
among b (t ∷ ts) = eqb b t || among b ts

-- nothing, or one of these tags first
abbrev pub Starts : List ℕ → List ℕ → Type 0
Starts tags [] = Unit {0}
Starts tags (b ∷ bs) = among b tags ≡ true

not_first : (tag : ℕ) (tags bs rest : List ℕ) → among tag tags ≡ false → Starts tags bs → rest ≡ [] → NotFirst tag (bs ++ rest)
not_first tag tags [] rest n s e = subst (NotFirst tag) (sym e) tt
not_first tag tags (b ∷ bs) rest n s e = λ k. false≢true (sym n ∙ (ap (λ (z : ℕ). among z tags) (sym k) ∙ s))

starts_more : (tag : ℕ) (tags bs : List ℕ) → Starts tags bs → Starts (tag ∷ tags) bs
starts_more tag tags [] s = tt
starts_more tag tags (b ∷ bs) s = rw s (elim (eqb b tag) as (λ v. (v || true) ≡ true) [ true ↦ refl | false ↦ refl ])

starts_here : (tag : ℕ) (tags bs : List ℕ) → Starts (tag ∷ tags) (tag ∷ bs)
starts_here tag tags bs = rw (eq-eqb tag tag refl) refl

-- fields that may be missing, in their order: exact up to the end, and what they begin with
pub record Optional {P X : Type 0} (file : List ℕ) (tags : List ℕ) (r : Reader P) (bytes : X → List ℕ) (Good : X → Type 0) (Shows : P → X → Type 0) : Type 0 where
  pub exact : Exact file Nothing r bytes Good Shows
  pub starts : (x : X) → Starts tags (bytes x)

module _ (file : List ℕ) (typed : Bytes file) (kind : Leaf) where
  abbrev pub LeafShows : Option Span → Option (List ℕ) → Type 0
  LeafShows = PerhapsShows (λ (s : Span) (c : List ℕ). cut file s ≡ c)

  pub field : Exact file (NotFirst (tag_of kind)) (perhaps (tag_of kind) (leaf_at kind)) (perhaps_bytes (encoded (tag_of kind))) (WhereThere (Kept kind)) LeafShows
  field = exact_perhaps file typed (exact_leaf file typed kind) (tag_of kind) (encoded_begins (tag_of kind))

  field_starts : (tags : List ℕ) (o : Option (List ℕ)) → Starts (tag_of kind ∷ tags) (perhaps_bytes (encoded (tag_of kind)) o)
  field_starts tags None = tt
  field_starts tags (Some c) = subst (Starts (tag_of kind ∷ tags)) (sym (encoded_begins (tag_of kind) c).1) (starts_here (tag_of kind) tags (encoded_begins (tag_of kind) c).0)

  nothing_first : (rest : List ℕ) → Nothing rest → NotFirst (tag_of kind) rest
  nothing_first rest e = subst (NotFirst (tag_of kind)) (sym e) tt

  -- the last field
  pub optional_last : Optional file (tag_of kind ∷ []) (perhaps (tag_of kind) (leaf_at kind)) (perhaps_bytes (encoded (tag_of kind))) (WhereThere (Kept kind)) LeafShows
  optional_last = record { exact = exact_weaker file typed nothing_first field; starts = field_starts [] }

  -- one more field in front
  module _ {Q Y : Type 0} {s : Reader Q} {bytes' : Y → List ℕ} {Good' : Y → Type 0} {Shows' : Q → Y → Type 0} (tags : List ℕ) (other : among (tag_of kind) tags ≡ false) (rest : Optional file tags s bytes' Good' Shows') where
    more_starts : (x : Option (List ℕ) × Y) → Starts (tag_of kind ∷ tags) (perhaps_bytes (encoded (tag_of kind)) x.0 ++ bytes' x.1)
    more_starts x = front x.0 x.1
      where
        front : (o : Option (List ℕ)) (y : Y) → Starts (tag_of kind ∷ tags) (perhaps_bytes (encoded (tag_of kind)) o ++ bytes' y)
        front None y = starts_more (tag_of kind) tags (bytes' y) (rest.starts y)
        front (Some c) y = subst (λ (z : List ℕ). Starts (tag_of kind ∷ tags) (z ++ bytes' y)) (sym (encoded_begins (tag_of kind) c).1) (starts_here (tag_of kind) tags ((encoded_begins (tag_of kind) c).0 ++ bytes' y))

    pub optional_more : Optional file (tag_of kind ∷ tags) (both (perhaps (tag_of kind) (leaf_at kind)) s) (λ (x : Option (List ℕ) × Y). perhaps_bytes (encoded (tag_of kind)) x.0 ++ bytes' x.1) (λ (x : Option (List ℕ) × Y). WhereThere (Kept kind) x.0 × Good' x.1) (λ (p : Option Span × Q) (x : Option (List ℕ) × Y). LeafShows p.0 x.0 × Shows' p.1 x.1)
    optional_more = record {
      exact = exact_chain file typed (λ _ _. s) {bytes' = λ _. bytes'} {Good' = λ _. Good'} {Shows' = λ _. Shows'} (λ x y z g g' e. not_first (tag_of kind) tags (bytes' y) z other (rest.starts y) e) field (λ p x w g. rest.exact);
      starts = more_starts;
    }
