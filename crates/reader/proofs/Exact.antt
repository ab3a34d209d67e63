-- Readers that are inverse to an encoding, and how such readers are put together.
use Rattle.std.proofs.Common.{◌≡◌, ℕ, ◌≤◌, Bool, true, false, cond, List, [], ◌++◌, length, Ok, Err, Decides, Result, sym, refl, ap, ◌∙◌, subst, inl, inr, arith}
use Rattle.std.proofs.lemmas.Bool.{cases_lt, lt-ltb, le-ltb}
use Rattle.std.proofs.lemmas.List.{append_assoc, append-nil, length-append}
use Rattle.der.specs.declared.refusal.Refusal.{Refusal}
use Rattle.der.specs.declared.refusal.Reason.{Reason}
use Rattle.der.specs.declared.refusal.Reason.TheVariants.{BytesLeft}
use Rattle.der.specs.Refusals.{refused, then}
use Rattle.der.specs.Numbers.{Bytes, part}
use Rattle.der.specs.Elements.{tagged_at, ended}
use Rattle.der.specs.Encoding.{encoded}
use Rattle.der.proofs.Parts.{part_length, part_none, part_split, same_halves}
use Rattle.der.proofs.Laws.{tagged_sound, tagged_complete}
use Rattle.reader.specs.declared.span.Span.{Span}
use Rattle.reader.specs.Readers.{Reader, cut, within, inside, chain, both, read, spanned, judged}

-- a chain that went well went well at its first step, and from there
pub then_into : {X Y G : Type 0} (q : Result X Refusal) (k : X → Result Y Refusal) (y : Y) → then q k ≡ Ok y → ((x : X) → q ≡ Ok x → k x ≡ Ok y → G) → G
then_into (Ok x) k y e go = go x refl e
then_into (Err d) k y e go = let z : ◌≡◌ {A = ℕ} 0 1 = cc in let no : ⊥ = omega arith in absurd no

pub then_made : {X Y : Type 0} (q : Result X Refusal) (k : X → Result Y Refusal) (x : X) (r : Result Y Refusal) → q ≡ Ok x → k x ≡ r → then q k ≡ r
then_made q k x r e h = ap (λ (p : Result _ Refusal). then p k) e ∙ h

-- a test that lets a reading go on
pub cond_into : {Y G : Type 0} (b : Bool) (q : Result Y Refusal) (d : Refusal) (y : Y) → cond b q (Err d) ≡ Ok y → (b ≡ true → q ≡ Ok y → G) → G
cond_into true q d y e go = go refl e
cond_into false q d y e go = let z : ◌≡◌ {A = ℕ} 0 1 = cc in let no : ⊥ = omega arith in absurd no

pub unless_into : {Y G : Type 0} (b : Bool) (q : Result Y Refusal) (d : Refusal) (y : Y) → cond b (Err d) q ≡ Ok y → (b ≡ false → q ≡ Ok y → G) → G
unless_into false q d y e go = go refl e
unless_into true q d y e go = let z : ◌≡◌ {A = ℕ} 0 1 = cc in let no : ⊥ = omega arith in absurd no

-- what an answer says of a file: what was read, by its syntax, and what follows it
pub record Sound {P X : Type 0} (file : List ℕ) (bytes : X → List ℕ) (Good : X → Type 0) (Shows : P → X → Type 0) (at end : ℕ) (p : P) (next : ℕ) : Type 0 where
  pub syntax : X
  pub stands : part file at end ≡ bytes syntax ++ part file next end
  pub good : Good syntax
  pub shows : Shows p syntax
  pub forward : at ≤ next
  pub within : next ≤ end

-- what is answered where an encoding stands
pub record Complete {P X : Type 0} (file : List ℕ) (r : Reader P) (Shows : P → X → Type 0) (at end : ℕ) (x : X) (rest : List ℕ) : Type 0 where
  pub answer : P
  pub next : ℕ
  pub was : r file at end ≡ Ok (answer, next)
  pub shows : Shows answer x
  pub forward : at ≤ next
  pub within : next ≤ end
  pub after : part file next end ≡ rest

-- in a file a reader reads exactly the encodings of a syntax that keeps the rules, where what follows is as it may be
pub record Exact {P X : Type 0} (file : List ℕ) (Follows : List ℕ → Type 0) (r : Reader P) (bytes : X → List ℕ) (Good : X → Type 0) (Shows : P → X → Type 0) : Type 0 where
  pub sound : (at end : ℕ) (p : P) (next : ℕ) → at ≤ end → end ≤ length file → r file at end ≡ Ok (p, next) → Sound file bytes Good Shows at end p next
  pub complete : (at end : ℕ) (x : X) (rest : List ℕ) → at ≤ end → end ≤ length file → part file at end ≡ bytes x ++ rest → Follows rest → Good x → Complete file r Shows at end x rest

-- anything may follow; nothing may
abbrev pub Anything : List ℕ → Type 0
Anything rest = Unit {0}

abbrev pub Nothing : List ℕ → Type 0
Nothing rest = rest ≡ []

-- the two halves of an answer
abbrev pub answered : {P : Type 0} → P → Result (P × ℕ) Refusal → P
answered d (Ok p) = p.0
answered d (Err e) = d

abbrev pub followed : {P : Type 0} → ℕ → Result (P × ℕ) Refusal → ℕ
followed d (Ok p) = p.1
followed d (Err e) = d

pub same_answer : {P : Type 0} (p q : P) (m n : ℕ) → ◌≡◌ {A = Result (P × ℕ) Refusal} (Ok (p, m)) (Ok (q, n)) → p ≡ q
same_answer p q m n e = ap (answered p) e

pub same_next : {P : Type 0} (p q : P) (m n : ℕ) → ◌≡◌ {A = Result (P × ℕ) Refusal} (Ok (p, m)) (Ok (q, n)) → m ≡ n
same_next p q m n e = ap (followed m) e

-- what was found stands also by another name of its answer and of what follows
pub sound_as : {P X : Type 0} {file : List ℕ} {bytes : X → List ℕ} {Good : X → Type 0} {Shows : P → X → Type 0} {at end : ℕ} (p q : P) (m n : ℕ) → ◌≡◌ {A = Result (P × ℕ) Refusal} (Ok (p, m)) (Ok (q, n)) → Sound file bytes Good Shows at end p m → Sound file bytes Good Shows at end q n
sound_as {file = file} {bytes = bytes} {Good = Good} {Shows = Shows} {at = at} {end = end} p q m n e s =
    subst (λ (z : ℕ). Sound file bytes Good Shows at end q z) (same_next p q m n e) (subst (λ (z : _). Sound file bytes Good Shows at end z m) (same_answer p q m n e) s)

-- where an enclosing element ends
pub over : (file : List ℕ) (from to : ℕ) → to ≤ length file → part file from to ≡ [] → to ≤ from
over file from to l e = let m : length (part file from to) ≡ 0 = ap length e in omega (arith, part_length file from to l)

pub ended_into : {Y G : Type 0} (at end : ℕ) (k : Unit {0} → Result Y Refusal) (y : Y) → then (ended at end) k ≡ Ok y → (end ≤ at → k tt ≡ Ok y → G) → G
ended_into at end k y e go = elim (cases_lt at end) [
  | inl h ↦ (let f : then (refused BytesLeft at) k ≡ Ok y = rw (lt-ltb at end h) at e in let z : ◌≡◌ {A = ℕ} 0 1 = cc in let no : ⊥ = omega arith in absurd no)
  | inr h ↦ go h (rw (le-ltb at end h) at e)
]

pub ended_made : {Y : Type 0} (at end : ℕ) (k : Unit {0} → Result Y Refusal) (r : Result Y Refusal) → end ≤ at → k tt ≡ r → then (ended at end) k ≡ r
ended_made at end k r h e = rw (le-ltb at end h) e

module _ (file : List ℕ) (typed : Bytes file) where
  -- an element that holds another syntax: exact where what it holds is
  module _ {P X : Type 0} (tag : ℕ) {r : ℕ → Reader P} {bytes : X → List ℕ} {Good : X → Type 0} {Shows : P → X → Type 0} {Follows : List ℕ → Type 0} (ends : Follows []) (inner : (at : ℕ) → Exact file Follows (r at) bytes Good Shows) where
    within_sound : (at end : ℕ) (p : P) (next : ℕ) → at ≤ end → end ≤ length file → within tag r file at end ≡ Ok (p, next) → Sound file (λ x. encoded tag (bytes x)) Good Shows at end p next
    within_sound at end p next h l e =
        then_into (tagged_at file at end tag) _ (p, next) e (λ s es e1.
        then_into (r at file s.0 s.1) _ (p, next) e1 (λ q eq e2.
        ended_into q.1 s.1 _ (p, next) e2 (λ k e3.
        let t = tagged_sound file at end tag s.0 s.1 typed l es in
        let i = (inner at).sound s.0 s.1 q.0 q.1 t.ordered (omega (arith, t.within)) eq in
        let all : part file s.0 s.1 ≡ bytes i.syntax = i.stands ∙ (ap (λ (z : List ℕ). bytes i.syntax ++ z) (part_none file q.1 s.1 k) ∙ append-nil (bytes i.syntax)) in
        sound_as q.0 p s.1 next e3 (record {
          syntax = i.syntax;
          stands = t.bytes ∙ ap (λ (z : List ℕ). encoded tag z ++ part file s.1 end) all;
          good = i.good;
          shows = i.shows;
          forward = omega (arith, t.behind, t.ordered);
          within = t.within;
        }))))

    within_complete : (at end : ℕ) (x : X) (rest : List ℕ) → at ≤ end → end ≤ length file → part file at end ≡ encoded tag (bytes x) ++ rest → Anything rest → Good x → Complete file (within tag r) Shows at end x rest
    within_complete at end x rest h l e any good =
        let f = tagged_complete file at end tag (bytes x) rest typed l e in
        let t = tagged_sound file at end tag f.from f.to typed l f.read in
        let i = (inner at).complete f.from f.to x [] t.ordered (omega (arith, f.within)) (f.inside ∙ sym (append-nil (bytes x))) ends good in
        let k : f.to ≤ i.next = over file i.next f.to (omega (arith, f.within)) i.after in
        record {
          answer = i.answer;
          next = f.to;
          was = then_made (tagged_at file at end tag) _ (f.from, f.to) _ f.read (then_made (r at file f.from f.to) _ (i.answer, i.next) _ i.was (ended_made i.next f.to _ _ k refl));
          shows = i.shows;
          forward = omega (arith, t.behind, t.ordered);
          within = f.within;
          after = f.after;
        }

    pub exact_within : Exact file Anything (within tag r) (λ x. encoded tag (bytes x)) Good Shows
    exact_within = record { sound = within_sound; complete = within_complete }

  pub exact_inside : {P X : Type 0} (tag : ℕ) {r : Reader P} {bytes : X → List ℕ} {Good : X → Type 0} {Shows : P → X → Type 0} {Follows : List ℕ → Type 0} (ends : Follows []) (inner : Exact file Follows r bytes Good Shows) → Exact file Anything (inside tag r) (λ x. encoded tag (bytes x)) Good Shows
  exact_inside tag ends inner = exact_within tag ends (λ _. inner)

  -- one behind the other
  module _ {P Q X Y : Type 0} {r : Reader P} (s : List ℕ → P → Reader Q) {bytes : X → List ℕ} {bytes' : X → Y → List ℕ} {Good : X → Type 0} {Good' : X → Y → Type 0} {Shows : P → X → Type 0} {Shows' : X → Q → Y → Type 0} {Follows Follows' : List ℕ → Type 0}
      (goes : (x : X) (y : Y) (rest : List ℕ) → Good x → Good' x y → Follows' rest → Follows (bytes' x y ++ rest)) (first : Exact file Follows r bytes Good Shows) (second : (p : P) (x : X) → Shows p x → Good x → Exact file Follows' (s file p) (bytes' x) (Good' x) (Shows' x)) where
    chain_sound : (at end : ℕ) (p : P × Q) (next : ℕ) → at ≤ end → end ≤ length file → chain r s file at end ≡ Ok (p, next) → Sound file (λ (x : X × Y). bytes x.0 ++ bytes' x.0 x.1) (λ (x : X × Y). Good x.0 × Good' x.0 x.1) (λ (p : P × Q) (x : X × Y). Shows p.0 x.0 × Shows' x.0 p.1 x.1) at end p next
    chain_sound at end p next h l e =
        then_into (r file at end) _ (p, next) e (λ u eu e1.
        then_into (s file u.0 file u.1 end) _ (p, next) e1 (λ v ev e2.
        let f = first.sound at end u.0 u.1 h l eu in
        let g = (second u.0 f.syntax f.shows f.good).sound u.1 end v.0 v.1 f.within l ev in
        sound_as (u.0, v.0) p v.1 next e2 (record {
          syntax = (f.syntax, g.syntax);
          stands = f.stands ∙ (ap (λ (z : List ℕ). bytes f.syntax ++ z) g.stands ∙ sym (append_assoc (bytes f.syntax) (bytes' f.syntax g.syntax) (part file v.1 end)));
          good = (f.good, g.good);
          shows = (f.shows, g.shows);
          forward = omega (arith, f.forward, g.forward);
          within = g.within;
        })))

    chain_complete : (at end : ℕ) (x : X × Y) (rest : List ℕ) → at ≤ end → end ≤ length file → part file at end ≡ (bytes x.0 ++ bytes' x.0 x.1) ++ rest → Follows' rest → Good x.0 × Good' x.0 x.1 → Complete file (chain r s) (λ (p : P × Q) (x : X × Y). Shows p.0 x.0 × Shows' x.0 p.1 x.1) at end x rest
    chain_complete at end x rest h l e may good =
        let f = first.complete at end x.0 (bytes' x.0 x.1 ++ rest) h l (e ∙ append_assoc (bytes x.0) (bytes' x.0 x.1) rest) (goes x.0 x.1 rest good.0 good.1 may) good.0 in
        let g = (second f.answer x.0 f.shows good.0).complete f.next end x.1 rest f.within l f.after may good.1 in
        record {
          answer = (f.answer, g.answer);
          next = g.next;
          was = then_made (r file at end) _ (f.answer, f.next) _ f.was (then_made (s file f.answer file f.next end) _ (g.answer, g.next) _ g.was refl);
          shows = (f.shows, g.shows);
          forward = omega (arith, f.forward, g.forward);
          within = g.within;
          after = g.after;
        }

    pub exact_chain : Exact file Follows' (chain r s) (λ (x : X × Y). bytes x.0 ++ bytes' x.0 x.1) (λ (x : X × Y). Good x.0 × Good' x.0 x.1) (λ (p : P × Q) (x : X × Y). Shows p.0 x.0 × Shows' x.0 p.1 x.1)
    exact_chain = record { sound = chain_sound; complete = chain_complete }

  pub exact_both : {P Q X Y : Type 0} {r : Reader P} {s : Reader Q} {bytes : X → List ℕ} {bytes' : Y → List ℕ} {Good : X → Type 0} {Good' : Y → Type 0} {Shows : P → X → Type 0} {Shows' : Q → Y → Type 0} {Follows' : List ℕ → Type 0} → Exact file Anything r bytes Good Shows → Exact file Follows' s bytes' Good' Shows' → Exact file Follows' (both r s) (λ (x : X × Y). bytes x.0 ++ bytes' x.1) (λ (x : X × Y). Good x.0 × Good' x.1) (λ (p : P × Q) (x : X × Y). Shows p.0 x.0 × Shows' p.1 x.1)
  exact_both {s = s} {bytes' = bytes'} {Good' = Good'} {Shows' = Shows'} first second = exact_chain (λ _ _. s) {bytes' = λ _. bytes'} {Good' = λ _. Good'} {Shows' = λ _. Shows'} (λ x y rest g g' m. tt) first (λ p x w g. second)

  -- less may follow
  pub exact_weaker : {P X : Type 0} {r : Reader P} {bytes : X → List ℕ} {Good : X → Type 0} {Shows : P → X → Type 0} {Follows Follows' : List ℕ → Type 0} → ((rest : List ℕ) → Follows' rest → Follows rest) → Exact file Follows r bytes Good Shows → Exact file Follows' r bytes Good Shows
  exact_weaker less exact = record { sound = exact.sound; complete = λ at end x rest h l e may good. exact.complete at end x rest h l e (less rest may) good }

  -- what was read, in another form, and its syntax too
  module _ {P P' X X' : Type 0} {r : Reader P} {bytes : X → List ℕ} {Good : X → Type 0} {Shows : P → X → Type 0} {bytes' : X' → List ℕ} {Good' : X' → Type 0} {Shows' : P' → X' → Type 0} {Follows : List ℕ → Type 0} (f : P → P') (exact : Exact file Follows r bytes Good Shows) where
    read_sound : (to : X → X') → ((x : X) → Good x → bytes x ≡ bytes' (to x)) → ((x : X) → Good x → Good' (to x)) → ((p : P) (x : X) → Good x → Shows p x → Shows' (f p) (to x)) →
        (at end : ℕ) (p : P') (next : ℕ) → at ≤ end → end ≤ length file → read f r file at end ≡ Ok (p, next) → Sound file bytes' Good' Shows' at end p next
    read_sound to there goods shown at end p next h l e =
        then_into (r file at end) _ (p, next) e (λ u eu e1.
        let i = exact.sound at end u.0 u.1 h l eu in
        sound_as (f u.0) p u.1 next e1 (record {
          syntax = to i.syntax;
          stands = i.stands ∙ ap (λ (z : List ℕ). z ++ part file u.1 end) (there i.syntax i.good);
          good = goods i.syntax i.good;
          shows = shown u.0 i.syntax i.good i.shows;
          forward = i.forward;
          within = i.within;
        }))

    read_complete : (back : X' → X) → ((x : X') → Good' x → bytes' x ≡ bytes (back x)) → ((x : X') → Good' x → Good (back x)) → ((p : P) (x : X') → Good' x → Shows p (back x) → Shows' (f p) x) →
        (at end : ℕ) (x : X') (rest : List ℕ) → at ≤ end → end ≤ length file → part file at end ≡ bytes' x ++ rest → Follows rest → Good' x → Complete file (read f r) Shows' at end x rest
    read_complete back here goods shown at end x rest h l e may good =
        let i = exact.complete at end (back x) rest h l (e ∙ ap (λ (z : List ℕ). z ++ rest) (here x good)) may (goods x good) in
        record {
          answer = f i.answer;
          next = i.next;
          was = then_made (r file at end) _ (i.answer, i.next) _ i.was refl;
          shows = shown i.answer x good i.shows;
          forward = i.forward;
          within = i.within;
          after = i.after;
        }

    pub exact_read : (to : X → X') (back : X' → X) →
        ((x : X) → Good x → bytes x ≡ bytes' (to x)) → ((x : X') → Good' x → bytes' x ≡ bytes (back x)) →
        ((x : X) → Good x → Good' (to x)) → ((x : X') → Good' x → Good (back x)) →
        ((p : P) (x : X) → Good x → Shows p x → Shows' (f p) (to x)) → ((p : P) (x : X') → Good' x → Shows p (back x) → Shows' (f p) x) →
        Exact file Follows (read f r) bytes' Good' Shows'
    exact_read to back there here goods goods' shown shown' = record { sound = read_sound to there goods shown; complete = read_complete back here goods' shown' }

  -- what stands between two places is what was read there
  pub whole : (at next end : ℕ) (x rest : List ℕ) → at ≤ next → next ≤ end → end ≤ length file → part file at end ≡ x ++ rest → part file next end ≡ rest → part file at next ≡ x
  whole at next end x rest h k l e f =
      let split = part_split file at next end h k l in
      let joined : part file at next ++ part file next end ≡ x ++ rest = sym split ∙ e in
      let sizes : length (part file at next) ≡ length x = omega (arith, ap length joined, length-append (part file at next) (part file next end), length-append x rest, ap length f) in
      (same_halves (part file at next) x (part file next end) rest sizes joined).0

  module _ {P X : Type 0} {r : Reader P} {bytes : X → List ℕ} {Good : X → Type 0} {Shows : P → X → Type 0} {Follows : List ℕ → Type 0} (exact : Exact file Follows r bytes Good Shows) where
    -- with the place of the whole
    pub exact_spanned : Exact file Follows (spanned r) bytes Good (λ (p : Span × P) (x : X). (cut file p.0 ≡ bytes x) × Shows p.1 x)
    exact_spanned = record {
      sound = λ at end p next h l e.
          then_into (r file at end) _ (p, next) e (λ u eu e1.
          let i = exact.sound at end u.0 u.1 h l eu in
          sound_as (record { from = at; to = u.1 }, u.0) p u.1 next e1 (record {
            syntax = i.syntax;
            stands = i.stands;
            good = i.good;
            shows = (whole at u.1 end (bytes i.syntax) (part file u.1 end) i.forward i.within l i.stands refl, i.shows);
            forward = i.forward;
            within = i.within;
          }));
      complete = λ at end x rest h l e may good.
          let i = exact.complete at end x rest h l e may good in
          record {
            answer = (record { from = at; to = i.next }, i.answer);
            next = i.next;
            was = then_made (r file at end) _ (i.answer, i.next) _ i.was refl;
            shows = (whole at i.next end (bytes x) rest i.forward i.within l e i.after, i.shows);
            forward = i.forward;
            within = i.within;
            after = i.after;
          };
    }

    -- with one more rule
    pub exact_judged : (test : List ℕ → P → Bool) (why : Reason) (place : ℕ → P → ℕ) {Holds : X → Type 0} → ((p : P) (x : X) → Shows p x → Good x → Decides (test file p) (Holds x)) → Exact file Follows (judged test why place r) bytes (λ (x : X). Good x × Holds x) Shows
    exact_judged test why place decides = record {
      sound = λ at end p next h l e.
          then_into (r file at end) _ (p, next) e (λ u eu e1.
          cond_into (test file u.0) _ _ (p, next) e1 (λ t e2.
          let i = exact.sound at end u.0 u.1 h l eu in
          sound_as u.0 p u.1 next e2 (record {
            syntax = i.syntax;
            stands = i.stands;
            good = (i.good, (decides u.0 i.syntax i.shows i.good).0 t);
            shows = i.shows;
            forward = i.forward;
            within = i.within;
          })));
      complete = λ at end x rest h l e may good.
          let i = exact.complete at end x rest h l e may good.0 in
          let t = (decides i.answer x i.shows good.0).1 good.1 in
          record {
            answer = i.answer;
            next = i.next;
            was = then_made (r file at end) _ (i.answer, i.next) _ i.was (rw t refl);
            shows = i.shows;
            forward = i.forward;
            within = i.within;
            after = i.after;
          };
    }

    -- another reader that answers the same
    pub exact_same : {r' : Reader P} → ((at end : ℕ) → r' file at end ≡ r file at end) → Exact file Follows r' bytes Good Shows
    exact_same alike = record {
      sound = λ at end p next h l e. exact.sound at end p next h l (sym (alike at end) ∙ e);
      complete = λ at end x rest h l e may good.
          let i = exact.complete at end x rest h l e may good in
          record { answer = i.answer; next = i.next; was = alike at end ∙ i.was; shows = i.shows; forward = i.forward; within = i.within; after = i.after };
    }

  then_same : {P : Type 0} (q : Result (P × ℕ) Refusal) → q ≡ then q (λ (p : P × ℕ). Ok (p.0, p.1))
  then_same (Ok p) = refl
  then_same (Err e) = refl

  -- the same reader for another syntax
  pub exact_form : {P X X' : Type 0} {r : Reader P} {bytes : X → List ℕ} {Good : X → Type 0} {Shows : P → X → Type 0} {bytes' : X' → List ℕ} {Good' : X' → Type 0} {Shows' : P → X' → Type 0} {Follows : List ℕ → Type 0} → Exact file Follows r bytes Good Shows → (to : X → X') (back : X' → X) →
      ((x : X) → Good x → bytes x ≡ bytes' (to x)) → ((x : X') → Good' x → bytes' x ≡ bytes (back x)) →
      ((x : X) → Good x → Good' (to x)) → ((x : X') → Good' x → Good (back x)) →
      ((p : P) (x : X) → Good x → Shows p x → Shows' p (to x)) → ((p : P) (x : X') → Good' x → Shows p (back x) → Shows' p x) →
      Exact file Follows r bytes' Good' Shows'
  exact_form {r = r} exact to back there here goods goods' shown shown' = exact_same (exact_read (λ p. p) exact to back there here goods goods' shown shown') (λ at end. then_same (r file at end))
