-- Reading an element is inverse to encoding it.
use Rattle.std.proofs.Common.{◌≡◌, ℕ, suc, ◌+◌, ◌-◌, ◌%◌, ◌<◌, ◌≤◌, cond, eqb, leb, List, ◌∷◌, ◌++◌, length, get_or, drop, Ok, Err, Result, sym, ap, ◌∙◌, subst, arith}
use Rattle.std.proofs.lemmas.Bool.Decides.{nat_tests}
use Rattle.std.proofs.lemmas.List.{append_assoc, length-append}
use Rattle.der.specs.declared.refusal.Refusal.{Refusal}
use Rattle.der.specs.declared.refusal.Reason.TheVariants.{WrongTag}
use Rattle.der.specs.declared.element.Element.{Element}
use Rattle.der.specs.Refusals.{refused}
use Rattle.der.specs.Numbers.{Bytes, part}
use Rattle.der.specs.Elements.{with_tag, length_at, end_within, any_at, element_at, wanted_at, tagged_at}
use Rattle.der.specs.Encoding.{length_bytes, encoded, Tells, Reads}
use Rattle.der.proofs.Parts.{part_length, part_more, part_split, part_all, same_halves}
use Rattle.der.proofs.Lengths.{Measured, length_sound, length_complete, length_unique}
use Rattle.der.proofs.Steps.{element_by_length}

-- no two elements begin alike
pub encoded_unique : (t t' : ℕ) (c c' r r' : List ℕ) → encoded t c ++ r ≡ encoded t' c' ++ r' → (t ≡ t') × (c ≡ c') × (r ≡ r')
unfolding encoded
encoded_unique t t' c c' r r' e =
    let behind : length_bytes (length c) ++ (c ++ r) ≡ length_bytes (length c') ++ (c' ++ r') = sym (append_assoc (length_bytes (length c)) c r) ∙ ((cc) ∙ append_assoc (length_bytes (length c')) c' r') in
    let tags : t ≡ t' = cc in
    let lengths = length_unique (length c) (length c') (c ++ r) (c' ++ r') behind in
    let halves = same_halves c c' r r' lengths.0 lengths.1 in
    (tags, halves.0, halves.1)

-- an element that was read within an enclosing one: its bytes are those of its encoding, and the rest follows
pub record Took (file : List ℕ) (at end tag from to : ℕ) : Type 0 where
  pub behind : at < from
  pub ordered : from ≤ to
  pub within : to ≤ end
  pub bytes : part file at end ≡ encoded tag (part file from to) ++ part file to end

took : (file : List ℕ) (at end from to : ℕ) → end ≤ length file → Measured file at end from to → Took file at end (get_or file at 0) from to
unfolding encoded
took file at end from to l m =
    let tag : ℕ = get_or file at 0 in
    let content : List ℕ = part file from to in
    let rest : List ℕ = part file to end in
    let some = m.some in
    let behind = m.behind in
    let ordered = m.ordered in
    let within = m.within in
    let first : part file at end ≡ tag ∷ part file (at + 1) end = part_more file at end (omega arith) l in
    let header : part file (at + 1) end ≡ part file (at + 1) from ++ part file from end = part_split file (at + 1) from end (omega arith) (omega arith) l in
    let inner : part file from end ≡ content ++ rest = part_split file from to end ordered within l in
    let size : length_bytes (to - from) ≡ length_bytes (length content) = ap (λ (n : ℕ). length_bytes n) (sym (part_length file from to (omega arith))) in
    let known : part file (at + 1) from ≡ length_bytes (length content) = m.bytes ∙ size in
    let joined : length_bytes (length content) ++ (content ++ rest) ≡ length_bytes (length content) ++ content ++ rest = sym (append_assoc (length_bytes (length content)) content rest) in
    record { behind = omega arith; ordered = ordered; within = within; bytes = cc }

-- where an encoded element stands, the length behind its tag is read
measured : (file : List ℕ) (at end tag : ℕ) (content rest : List ℕ) → end ≤ length file → part file at end ≡ encoded tag content ++ rest → (at < end) × (get_or file at 0 ≡ tag) × ((from to : ℕ) × (length_at file at end ≡ Ok (from, to)))
unfolding encoded
measured file at end tag content rest l e =
    let size : length (part file at end) ≡ suc (length ((length_bytes (length content) ++ content) ++ rest)) = ap length e in
    let whole : length (part file at end) ≡ end - at = part_length file at end l in
    let first : part file at end ≡ get_or file at 0 ∷ part file (at + 1) end = part_more file at end (omega arith) l in
    let joined : length_bytes (length content) ++ content ++ rest ≡ length_bytes (length content) ++ (content ++ rest) = append_assoc (length_bytes (length content)) content rest in
    let tags : get_or file at 0 ≡ tag = cc in
    let behind : part file (at + 1) end ≡ length_bytes (length content) ++ (content ++ rest) = cc in
    let enough : length (content ++ rest) ≡ length content + length rest = length-append content rest in
    (omega arith, tags, length_complete file at end (length content) (content ++ rest) l behind (omega arith))

-- an end within the file is the end that counts
end_within_lem : (file : List ℕ) (end : ℕ) → end ≤ length file → end_within file end ≡ end
end_within_lem file end l = omega arith

-- what a reading of any element says of its tag and of its length
any_cases : (at end x : ℕ) (q : Result (ℕ × ℕ) Refusal) (tag from to : ℕ) → cond (leb end at) (refused WrongTag at) (cond (eqb (x % 32) 31) (refused WrongTag at) (with_tag x q)) ≡ Ok (tag, from, to) → (at < end) × (tag ≡ x) × (tag % 32 ≡ 31 → ⊥) × (q ≡ Ok (from, to))
any_cases at end x (Ok p) tag from to e = grind (arith, nat_tests)
any_cases at end x (Err p) tag from to e = grind (arith, nat_tests)

-- an element of any tag that was read, and its tag is one byte
pub record Passed (file : List ℕ) (at end tag from to : ℕ) : Type 0 where
  pub one_byte : tag % 32 ≡ 31 → ⊥
  pub took : Took file at end tag from to

pub element_sound : (file : List ℕ) (at end tag from to : ℕ) → Bytes file → end ≤ length file → element_at file at end ≡ Ok (tag, from, to) → Passed file at end tag from to
unfolding element_at
element_sound file at end tag from to b l e =
    let p = any_cases at end (get_or file at 0) (length_at file at end) tag from to (ap (any_at file at) (sym (end_within_lem file end l)) ∙ e) in
    let t = took file at end from to l (length_sound file at end from to b l p.3) in
    record { one_byte = p.2; took = subst (λ (x : ℕ). Took file at end x from to) (sym p.1) t }

pub element_complete : (file : List ℕ) (at end tag : ℕ) (content rest : List ℕ) → end ≤ length file → (tag % 32 ≡ 31 → ⊥) → part file at end ≡ encoded tag content ++ rest → (from to : ℕ) × (element_at file at end ≡ Ok (tag, from, to))
element_complete file at end tag content rest l one e =
    let m = measured file at end tag content rest l e in
    let tags : get_or file at 0 ≡ tag = m.1 in
    let read = element_by_length file at end end (Ok (m.2.0, m.2.1)) (sym (end_within_lem file end l)) m.0 (λ k. one (sym (ap (λ (x : ℕ). x % 32) tags) ∙ k)) (sym m.2.2) in
    let mk : ℕ → Result (ℕ × ℕ × ℕ) Refusal = λ x. Ok (x, m.2.0, m.2.1) in
    (m.2.0, m.2.1, sym read ∙ ap mk tags)

-- the same of an element whose tag is wanted
wanted_cases : (at end x wanted : ℕ) (q : Result (ℕ × ℕ) Refusal) (from to : ℕ) → cond (leb end at) (refused WrongTag at) (cond (eqb x wanted) q (refused WrongTag at)) ≡ Ok (from, to) → (x ≡ wanted) × (q ≡ Ok (from, to))
wanted_cases at end x wanted (Ok p) from to e = grind (arith, nat_tests)
wanted_cases at end x wanted (Err p) from to e = grind (arith, nat_tests)

wanted_made : (at end x wanted : ℕ) (q : Result (ℕ × ℕ) Refusal) → at < end → x ≡ wanted → cond (leb end at) (refused WrongTag at) (cond (eqb x wanted) q (refused WrongTag at)) ≡ q
wanted_made at end x wanted q h e = grind (arith, nat_tests)

pub tagged_sound : (file : List ℕ) (at end wanted from to : ℕ) → Bytes file → end ≤ length file → tagged_at file at end wanted ≡ Ok (from, to) → Took file at end wanted from to
unfolding tagged_at
tagged_sound file at end wanted from to b l e =
    let p = wanted_cases at end (get_or file at 0) wanted (length_at file at end) from to (ap (λ (n : ℕ). wanted_at file at n wanted) (sym (end_within_lem file end l)) ∙ e) in
    subst (λ (x : ℕ). Took file at end x from to) p.0 (took file at end from to l (length_sound file at end from to b l p.1))

pub record Found (file : List ℕ) (at end wanted : ℕ) (content rest : List ℕ) : Type 0 where
  pub from : ℕ
  pub to : ℕ
  pub read : tagged_at file at end wanted ≡ Ok (from, to)
  pub within : to ≤ end
  pub inside : part file from to ≡ content
  pub after : part file to end ≡ rest

pub tagged_complete : (file : List ℕ) (at end wanted : ℕ) (content rest : List ℕ) → Bytes file → end ≤ length file → part file at end ≡ encoded wanted content ++ rest → Found file at end wanted content rest
unfolding tagged_at
tagged_complete file at end wanted content rest b l e =
    let m = measured file at end wanted content rest l e in
    let read : tagged_at file at end wanted ≡ Ok (m.2.0, m.2.1) = ap (λ (n : ℕ). wanted_at file at n wanted) (end_within_lem file end l) ∙ (wanted_made at end (get_or file at 0) wanted (length_at file at end) m.0 m.1 ∙ m.2.2) in
    let t = tagged_sound file at end wanted m.2.0 m.2.1 b l read in
    let u = encoded_unique wanted wanted (part file m.2.0 m.2.1) content (part file m.2.1 end) rest (sym t.bytes ∙ e) in
    record { from = m.2.0; to = m.2.1; read = read; within = t.within; inside = u.1; after = u.2 }

-- what the single-element call tells
pub tells_from : (file : List ℕ) (place : ℕ) (r : Result Element Refusal) → Bytes file → Reads file place r → Tells file place r
tells_from file place (Ok d) b h =
    let p = element_sound file place (length file) d.tag h.from h.to b (omega arith) h.read in
    let rest : List ℕ = part file h.to (length file) in
    let bytes : drop place file ≡ encoded d.tag d.content.now ++ rest = sym (part_all file place) ∙ (p.took.bytes ∙ ap (λ (c : List ℕ). encoded d.tag c ++ rest) (sym h.content)) in
    record {
      rest = rest;
      begins = record { one_byte = p.one_byte; bytes = bytes };
      alone = λ t c r g. encoded_unique t d.tag c d.content.now r rest (sym g.bytes ∙ bytes);
    }
tells_from file place (Err d) b h = λ t c r g.
    let p = element_complete file place (length file) t c r (omega arith) g.one_byte (part_all file place ∙ g.bytes) in
    let read = p.2 in
    let never : ◌≡◌ {A = ℕ} 0 1 = cc in omega arith
