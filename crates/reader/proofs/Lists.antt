-- Lists of entries are read exactly.
use Rattle.std.proofs.Common.{◌≡◌, ℕ, zero, suc, ◌<◌, ◌≤◌, ltb, List, [], ◌∷◌, ◌++◌, length, Ok, Err, Result, sym, refl, ap, ◌∙◌, subst, inl, inr, arith}
use Rattle.std.specs.List.{flat_map}
use Rattle.std.proofs.lemmas.Bool.{cases_lt, lt-ltb, le-ltb, ltb-true}
use Rattle.std.proofs.lemmas.List.{append_assoc, append-nil}
use Rattle.der.specs.declared.refusal.Refusal.{Refusal}
use Rattle.der.specs.declared.refusal.Reason.TheVariants.{ListSize}
use Rattle.der.specs.Refusals.{refused}
use Rattle.der.specs.Numbers.{Bytes, part}
use Rattle.der.specs.Elements.{tagged_at}
use Rattle.der.specs.Encoding.{encoded}
use Rattle.der.proofs.Parts.{part_none}
use Rattle.der.proofs.Laws.{tagged_sound, tagged_complete}
use Rattle.reader.specs.Readers.{Reader, entries_at, list_at}
use Rattle.reader.specs.Syntax.{Each, Absent, Apart, Listed}
use Rattle.reader.proofs.Exact.{Exact, Anything, Sound, Complete, then_into, then_made, cond_into, sound_as, over}

-- answers that show a syntax, one by one
abbrev pub Show : {P X : Type 0} → (P → X → Type 0) → List P → List X → Type 0
Show Shows [] [] = Unit {0}
Show Shows [] (x ∷ xs) = ⊥
Show Shows (p ∷ ps) [] = ⊥
Show Shows (p ∷ ps) (x ∷ xs) = Shows p x × Show Shows ps xs

-- one more at the end
show_more : {P X : Type 0} (Shows : P → X → Type 0) (ps : List P) (xs : List X) (p : P) (x : X) → Show Shows ps xs → Shows p x → Show Shows (ps ++ p ∷ []) (xs ++ x ∷ [])
show_more Shows [] [] p x s h = (h, tt)
show_more Shows [] (y ∷ xs) p x s h = absurd s
show_more Shows (q ∷ ps) [] p x s h = absurd s
show_more Shows (q ∷ ps) (y ∷ xs) p x s h = (s.0, show_more Shows ps xs p x s.1 h)

-- nothing more to read
pub entries_over : {P : Type 0} (entry : List P → Reader P) (list left : ℕ) (seen : List P) (file : List ℕ) (at end : ℕ) → end ≤ at → entries_at entry list left seen file at end ≡ Ok seen
entries_over entry list zero seen file at end h = rw (le-ltb at end h) refl
entries_over entry list (suc left) seen file at end h = rw (le-ltb at end h) refl

-- one more entry; one too many; one that is refused
pub entries_turn : {P : Type 0} (entry : List P → Reader P) (list left : ℕ) (seen : List P) (file : List ℕ) (at end : ℕ) (p : P) (next : ℕ) → at < end → entry seen file at end ≡ Ok (p, next) → entries_at entry list (suc left) seen file at end ≡ entries_at entry list left (seen ++ p ∷ []) file next end
entries_turn entry list left seen file at end p next h e = rw (lt-ltb at end h, e) refl

pub entries_full : {P : Type 0} (entry : List P → Reader P) (list : ℕ) (seen : List P) (file : List ℕ) (at end : ℕ) → at < end → entries_at entry list 0 seen file at end ≡ refused ListSize list
entries_full entry list seen file at end h = rw (lt-ltb at end h) refl

pub entries_broken : {P : Type 0} (entry : List P → Reader P) (list left : ℕ) (seen : List P) (file : List ℕ) (at end : ℕ) (d : Refusal) → at < end → entry seen file at end ≡ Err d → entries_at entry list (suc left) seen file at end ≡ Err d
entries_broken entry list left seen file at end d h e = rw (lt-ltb at end h, e) refl

module _ (file : List ℕ) (typed : Bytes file) {P X L : Type 0} (entry : List P → Reader P) {bytes : X → List ℕ} {Good : X → Type 0} {label : X → L} {Shows : P → X → Type 0}
    (some : (x : X) → (b : ℕ) × ((bs : List ℕ) × (bytes x ≡ b ∷ bs)))
    (one : (ps : List P) (xs : List X) → Show Shows ps xs → Exact file Anything (entry ps) bytes (λ (x : X). Good x × Absent label (label x) xs) Shows) where
  -- what is read of the rest of a list
  record Rest (left : ℕ) (seen : List P) (before : List X) (at end : ℕ) (ps : List P) : Type 0 where
    more : List X
    stands : part file at end ≡ flat_map bytes more
    few : length more ≤ left
    each : Each Good more
    apart : Apart label before more
    shows : Show Shows ps (before ++ more)

  rest_none : (left : ℕ) (seen ps : List P) (before : List X) (at end : ℕ) → end ≤ at → Show Shows seen before → ◌≡◌ {A = Result (List P) Refusal} (Ok seen) (Ok ps) → Rest left seen before at end ps
  rest_none left seen ps before at end h s e =
      let same : seen ≡ ps = cc in
      record {
        more = [];
        stands = part_none file at end h;
        few = omega arith;
        each = tt;
        apart = tt;
        shows = subst (λ (z : List X). Show Shows ps z) (sym (append-nil before)) (subst (λ (z : List P). Show Shows z before) same s);
      }

  entries_sound : (list left : ℕ) (seen ps : List P) (before : List X) (at end : ℕ) → at ≤ end → end ≤ length file → Show Shows seen before → entries_at entry list left seen file at end ≡ Ok ps → Rest left seen before at end ps
  entries_sound list zero seen ps before at end g l s e = elim (cases_lt at end) [
    | inl h ↦ (let f : refused ListSize list ≡ Ok ps = sym (entries_full entry list seen file at end h) ∙ e in let z : ◌≡◌ {A = ℕ} 0 1 = cc in let no : ⊥ = omega arith in absurd no)
    | inr h ↦ rest_none 0 seen ps before at end h s (sym (entries_over entry list 0 seen file at end h) ∙ e)
  ]
  entries_sound list (suc left) seen ps before at end g l s e = elim (cases_lt at end) [
    | inl h ↦ then_into (entry seen file at end) _ ps (rw (lt-ltb at end h) at e) (λ p ep e1.
        let i = (one seen before s).sound at end p.0 p.1 g l ep in
        let more : Show Shows (seen ++ p.0 ∷ []) (before ++ i.syntax ∷ []) = show_more Shows seen before p.0 i.syntax s i.shows in
        let r = entries_sound list left (seen ++ p.0 ∷ []) ps (before ++ i.syntax ∷ []) p.1 end i.within l more e1 in
        record {
          more = i.syntax ∷ r.more;
          stands = i.stands ∙ ap (λ (z : List ℕ). bytes i.syntax ++ z) r.stands;
          few = omega (arith, r.few);
          each = (i.good.0, r.each);
          apart = (i.good.1, r.apart);
          shows = subst (λ (z : List X). Show Shows ps z) (append_assoc before (i.syntax ∷ []) r.more) r.shows;
        })
    | inr h ↦ rest_none (suc left) seen ps before at end h s (sym (entries_over entry list (suc left) seen file at end h) ∙ e)
  ]

  not_empty : (xs : List X) (from to : ℕ) → from < to → to ≤ length file → part file from to ≡ flat_map bytes xs → 1 ≤ length xs
  not_empty [] from to h l e = let no : ⊥ = omega (arith, over file from to l e) in absurd no
  not_empty (x ∷ xs) from to h l e = omega arith

  some_bytes : (xs : List X) (from to : ℕ) → to ≤ length file → 1 ≤ length xs → part file from to ≡ flat_map bytes xs → from < to
  some_bytes [] from to l n e = let no : ⊥ = omega arith in absurd no
  some_bytes (x ∷ xs) from to l n e = elim (cases_lt from to) [
    | inl h ↦ h
    | inr h ↦ (let z = sym (part_none file from to h) ∙ (e ∙ ap (λ (z : List ℕ). z ++ flat_map bytes xs) (some x).1.1) in let no : ⊥ = omega (arith, ap length z) in absurd no)
  ]

  entries_complete : (xs : List X) (list left : ℕ) (seen : List P) (before : List X) (at end : ℕ) → at ≤ end → end ≤ length file → Show Shows seen before → length xs ≤ left → part file at end ≡ flat_map bytes xs → Each Good xs → Apart label before xs → (ps : List P) × ((entries_at entry list left seen file at end ≡ Ok ps) × Show Shows ps (before ++ xs))
  entries_complete [] list left seen before at end g l s n e each apart =
      (seen, (entries_over entry list left seen file at end (over file at end l e), subst (λ (z : List X). Show Shows seen z) (sym (append-nil before)) s))
  entries_complete (x ∷ xs) list zero seen before at end g l s n e each apart = let no : ⊥ = omega arith in absurd no
  entries_complete (x ∷ xs) list (suc left) seen before at end g l s n e each apart =
      let i = (one seen before s).complete at end x (flat_map bytes xs) g l e tt (each.0, apart.0) in
      let h : at < end = some_bytes (x ∷ xs) at end l (omega arith) e in
      let more : Show Shows (seen ++ i.answer ∷ []) (before ++ x ∷ []) = show_more Shows seen before i.answer x s i.shows in
      let r = entries_complete xs list left (seen ++ i.answer ∷ []) (before ++ x ∷ []) i.next end i.within l more (omega arith) i.after each.1 apart.1 in
      (r.0, (entries_turn entry list left seen file at end i.answer i.next h i.was ∙ r.1.0, subst (λ (z : List X). Show Shows r.0 z) (append_assoc before (x ∷ []) xs) r.1.1))

  list_sound : (tag most at end : ℕ) (ps : List P) (next : ℕ) → at ≤ end → end ≤ length file → list_at tag most entry file at end ≡ Ok (ps, next) → Sound file (λ (xs : List X). encoded tag (flat_map bytes xs)) (Listed most Good label) (Show Shows) at end ps next
  list_sound tag most at end ps next h l e =
      then_into (tagged_at file at end tag) _ (ps, next) e (λ s es e1.
      cond_into (ltb s.0 s.1) _ _ (ps, next) e1 (λ k e2.
      then_into (entries_at entry at most [] file s.0 s.1) _ (ps, next) e2 (λ qs eq e3.
      let t = tagged_sound file at end tag s.0 s.1 typed l es in
      let r = entries_sound at most [] qs [] s.0 s.1 t.ordered (omega (arith, t.within)) tt eq in
      let n : 1 ≤ length r.more = not_empty r.more s.0 s.1 (ltb-true s.0 s.1 k) (omega (arith, t.within)) r.stands in
      sound_as qs ps s.1 next e3 (record {
        syntax = r.more;
        stands = t.bytes ∙ ap (λ (z : List ℕ). encoded tag z ++ part file s.1 end) r.stands;
        good = record { some = n; few = r.few; each = r.each; apart = r.apart };
        shows = r.shows;
        forward = omega (arith, t.behind, t.ordered);
        within = t.within;
      }))))

  list_complete : (tag most at end : ℕ) (xs : List X) (rest : List ℕ) → at ≤ end → end ≤ length file → part file at end ≡ encoded tag (flat_map bytes xs) ++ rest → Anything rest → Listed most Good label xs → Complete file (list_at tag most entry) (Show Shows) at end xs rest
  list_complete tag most at end xs rest h l e may good =
      let f = tagged_complete file at end tag (flat_map bytes xs) rest typed l e in
      let t = tagged_sound file at end tag f.from f.to typed l f.read in
      let k : f.from < f.to = some_bytes xs f.from f.to (omega (arith, f.within)) good.some f.inside in
      let r = entries_complete xs at most [] [] f.from f.to t.ordered (omega (arith, f.within)) tt good.few f.inside good.each good.apart in
      record {
        answer = r.0;
        next = f.to;
        was = then_made (tagged_at file at end tag) _ (f.from, f.to) _ f.read (rw (lt-ltb f.from f.to k) (then_made (entries_at entry at most [] file f.from f.to) _ r.0 _ r.1.0 refl));
        shows = r.1.1;
        forward = omega (arith, t.behind, t.ordered);
        within = f.within;
        after = f.after;
      }

  pub exact_list : (tag most : ℕ) → Exact file Anything (list_at tag most entry) (λ (xs : List X). encoded tag (flat_map bytes xs)) (Listed most Good label) (Show Shows)
  exact_list tag most = record { sound = list_sound tag most; complete = list_complete tag most }
