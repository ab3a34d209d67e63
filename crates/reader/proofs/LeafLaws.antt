-- Elements that hold no others are read exactly.
use Rattle.std.proofs.Common.{◌≡◌, ℕ, ◌≤◌, Bool, true, false, ◌&&◌, eqb, List, [], ◌∷◌, length, get_or, is_some, Decides, sym, refl, ap, ◌∙◌, inl, inr, arith}
use Rattle.std.proofs.lemmas.Bool.Decides.{nat_tests}
use Rattle.std.proofs.lemmas.Bool.{cases_eq, ne_eqb, false≢true}
use Rattle.der.specs.Numbers.{Bytes, part}
use Rattle.der.specs.Contents.{boolean_bytes, boolean_of}
use Rattle.der.specs.Elements.{tagged_at, element_at}
use Rattle.der.specs.Encoding.{encoded}
use Rattle.der.proofs.Rules.{serial_decides, identifier_decides, time_decides}
use Rattle.der.proofs.Laws.{tagged_sound, tagged_complete, element_sound, element_complete, encoded_unique}
use Rattle.reader.specs.declared.span.Span.{Span}
use Rattle.reader.specs.declared.leaf.Leaf.{Leaf}
use Rattle.reader.specs.declared.leaf.Leaf.TheVariants as leaf
use Rattle.reader.specs.Readers.{cut}
use Rattle.reader.specs.Leaves.{tag_of, is_sized, Sized, Kept, is_kept, leaf_at, passed_at}
use Rattle.reader.specs.Syntax.{Other, other_bytes, OneByteTag}
use Rattle.reader.proofs.Exact.{Exact, Anything, then_into, then_made, cond_into, sound_as, whole}

sized_decides : (least most : ℕ) (c : List ℕ) → Decides (is_sized least most c) (Sized least most c)
sized_decides least most c = (λ e. record { long = grind (arith, nat_tests); short = grind (arith, nat_tests) }, λ s. let a = s.long in let b = s.short in grind (arith, nat_tests))

-- a content of one byte
one_decides : (n : ℕ) (c : List ℕ) → Decides (eqb (length c) 1 && eqb (get_or c 0 0) n) (c ≡ n ∷ [])
one_decides n [] = (λ e. let no : ⊥ = grind (arith, nat_tests) in absurd no, λ e. let z : ◌≡◌ {A = ℕ} 0 1 = ap length e in let no : ⊥ = omega arith in absurd no)
one_decides n (x ∷ []) = (λ e. let h : x ≡ n = grind (arith, nat_tests) in ap (λ (y : ℕ). y ∷ []) h, λ e. let h : x ≡ n = ap (λ (l : List ℕ). get_or l 0 0) e in grind (arith, nat_tests))
one_decides n (x ∷ y ∷ c) = (λ e. let no : ⊥ = grind (arith, nat_tests) in absurd no, λ e. let z = ap length e in let no : ⊥ = omega arith in absurd no)

known : (b : Bool) → is_some (boolean_of (boolean_bytes b)) ≡ true
known true = refl
known false = refl

boolean_decides : (c : List ℕ) → Decides (is_some (boolean_of c)) ((b : Bool) × (c ≡ boolean_bytes b))
boolean_decides [] = (λ e. let z : ◌≡◌ {A = ℕ} 0 1 = cc in let no : ⊥ = omega arith in absurd no, λ b. ap (λ (l : List ℕ). is_some (boolean_of l)) b.1 ∙ known b.0)
boolean_decides (x ∷ []) = (
  λ e. elim (cases_eq x 255) [
    | inl h ↦ (true, ap (λ (y : ℕ). y ∷ []) h)
    | inr h ↦ elim (cases_eq x 0) [
      | inl k ↦ (false, ap (λ (y : ℕ). y ∷ []) k)
      | inr k ↦ (let f : false ≡ true = rw (ne_eqb x 255 h, ne_eqb x 0 k) at e in absurd (false≢true f))
    ]
  ],
  λ b. ap (λ (l : List ℕ). is_some (boolean_of l)) b.1 ∙ known b.0,
)
boolean_decides (x ∷ y ∷ c) = (λ e. let ne : length (x ∷ y ∷ c) ≡ 1 → ⊥ = λ k. omega arith in let f : false ≡ true = rw (ne_eqb (length (x ∷ y ∷ c)) 1 ne) at e in absurd (false≢true f), λ b. ap (λ (l : List ℕ). is_some (boolean_of l)) b.1 ∙ known b.0)

-- each test of a content means what its rule says
pub kept_decides : (kind : Leaf) (c : List ℕ) → Decides (is_kept kind c) (Kept kind c)
kept_decides leaf.Version c = one_decides 1 c
kept_decides leaf.Name c = sized_decides 1 128 c
kept_decides leaf.Serial c = serial_decides c
kept_decides leaf.Identifier c = identifier_decides c
kept_decides leaf.Time c = time_decides c
kept_decides leaf.Critical c = one_decides 0xFF c
kept_decides (leaf.Opaque t) c = (λ e. tt, λ u. refl)
kept_decides leaf.Signature c = (λ e. record { long = grind (arith, nat_tests); whole = grind (arith, nat_tests) }, λ s. let a = s.long in let b = s.whole in grind (arith, nat_tests))
kept_decides leaf.Class c = (λ e. grind (arith, nat_tests), λ h. grind (arith, nat_tests))
kept_decides leaf.Text c = sized_decides 1 64 c
kept_decides leaf.SerialText c = sized_decides 1 64 c
kept_decides leaf.Revision c = sized_decides 1 64 c
kept_decides leaf.Replaceable c = boolean_decides c
kept_decides leaf.Status c = (λ e. record { one = grind (arith, nat_tests); known = grind (arith, nat_tests) }, λ s. let a = s.one in let b = s.known in grind (arith, nat_tests))

module _ (file : List ℕ) (typed : Bytes file) where
  -- an element of a kind
  pub exact_leaf : (kind : Leaf) → Exact file Anything (leaf_at kind) (encoded (tag_of kind)) (Kept kind) (λ (s : Span) (c : List ℕ). cut file s ≡ c)
  unfolding leaf_at
  exact_leaf kind = record {
    sound = λ at end p next h l e.
        then_into (tagged_at file at end (tag_of kind)) _ (p, next) e (λ s es e1.
        cond_into (is_kept kind (part file s.0 s.1)) _ _ (p, next) e1 (λ k e2.
        let t = tagged_sound file at end (tag_of kind) s.0 s.1 typed l es in
        sound_as (record { from = s.0; to = s.1 }) p s.1 next e2 (record {
          syntax = part file s.0 s.1;
          stands = t.bytes;
          good = (kept_decides kind (part file s.0 s.1)).0 k;
          shows = refl;
          forward = omega (arith, t.behind, t.ordered);
          within = t.within;
        })));
    complete = λ at end x rest h l e may good.
        let f = tagged_complete file at end (tag_of kind) x rest typed l e in
        let t = tagged_sound file at end (tag_of kind) f.from f.to typed l f.read in
        let k : is_kept kind (part file f.from f.to) ≡ true = ap (is_kept kind) f.inside ∙ (kept_decides kind x).1 good in
        record {
          answer = record { from = f.from; to = f.to };
          next = f.to;
          was = then_made (tagged_at file at end (tag_of kind)) _ (f.from, f.to) _ f.read (rw k refl);
          shows = f.inside;
          forward = omega (arith, t.behind, t.ordered);
          within = f.within;
          after = f.after;
        };
  }

  -- an element passed over
  pub exact_passed : Exact file Anything passed_at other_bytes OneByteTag (λ (s : Span) (o : Other). cut file s ≡ other_bytes o)
  unfolding passed_at
  exact_passed = record {
    sound = λ at end p next h l e.
        then_into (element_at file at end) _ (p, next) e (λ s es e1.
        let t = element_sound file at end s.0 s.1 s.2 typed l es in
        let stands = t.took.bytes in
        let h : at ≤ s.2 = omega (arith, t.took.behind, t.took.ordered) in
        sound_as (record { from = at; to = s.2 }) p s.2 next e1 (record {
          syntax = record { tag = s.0; content = part file s.1 s.2 };
          stands = stands;
          good = t.one_byte;
          shows = whole file typed at s.2 end (encoded s.0 (part file s.1 s.2)) (part file s.2 end) h t.took.within l stands refl;
          forward = h;
          within = t.took.within;
        }));
    complete = λ at end x rest h l e may good.
        let f = element_complete file at end x.tag x.content rest l good e in
        let t = element_sound file at end x.tag f.0 f.1 typed l f.2 in
        let u = encoded_unique x.tag x.tag (part file f.0 f.1) x.content (part file f.1 end) rest (sym t.took.bytes ∙ e) in
        let h : at ≤ f.1 = omega (arith, t.took.behind, t.took.ordered) in
        record {
          answer = record { from = at; to = f.1 };
          next = f.1;
          was = then_made (element_at file at end) _ (x.tag, f.0, f.1) _ f.2 refl;
          shows = whole file typed at f.1 end (other_bytes x) rest h t.took.within l e u.2;
          forward = h;
          within = t.took.within;
          after = u.2;
        };
  }
