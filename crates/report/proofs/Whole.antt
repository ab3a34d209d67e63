-- A file is accepted exactly where it is the report of some parts, and these are then unique.
use Rattle.std.proofs.Common.{◌≡◌, ℕ, zero, suc, ◌+◌, ◌-◌, ◌*◌, ◌/◌, ◌%◌, ◌≤◌, cond, eqb, ltb, List, [], ◌∷◌, ◌++◌, length, get_or, Ok, Err, Result, sym, refl, ap, ◌∙◌, subst, inl, append_assoc, arith}
use Rattle.std.specs.List.{flat_map}
use Rattle.std.proofs.lemmas.List.{length-append}
use Rattle.std.proofs.lemmas.Bool.Decides.{nat_tests}
use Rattle.der.specs.Refusals.{then, refused}
use Rattle.der.specs.Numbers.{Bytes, part}
use Rattle.der.specs.declared.refusal.Refusal.{Refusal}
use Rattle.der.specs.declared.refusal.Reason.TheVariants.{CutShort, BytesLeft, BadContent, ListSize}
use Rattle.der.proofs.Parts.{part_length, part_none, part_more, part_split, part_all, same_halves}
use Rattle.model.specs.declared.part.Part.{Part}
use Rattle.parts.specs.declared.key.Key.{Key}
use Rattle.parts.specs.declared.details.Details.{Details}
use Rattle.report.specs.Layout.{most_reported, key_place, details_place, report_size, two_at}
use Rattle.report.specs.Checks.{keys_from, details_from, sizes_of, checked}
use Rattle.report.specs.Meaning.{parts_from, parts_in}
use Rattle.report.specs.Format.{two_bytes, key_bytes, details_bytes, report_bytes, Reports, Told}
use Rattle.report.proofs.Steps.{err_ok, then_ok}
use Rattle.report.proofs.Complete.{key_size_lem, details_size_lem, PartsBack, parts_back}
use Rattle.report.proofs.Sound.{joined_keys, joined_details, ascending}

-- ---- the sizes

abbrev sizes_by : ℕ → ℕ → ℕ → ℕ → Result ℕ Refusal
sizes_by size n k d =
    cond (ltb size 2) (refused CutShort 0)
    (cond (ltb most_reported n) (refused ListSize 0)
    (cond (ltb size 4) (refused CutShort 2)
    (cond (eqb k 200)
    (cond (ltb size 6) (refused CutShort 4)
    (cond (eqb d 66)
    (cond (ltb size (report_size n)) (refused CutShort size)
    (cond (ltb (report_size n) size) (refused BytesLeft (report_size n))
    (Ok n)))
    (refused BadContent 4)))
    (refused BadContent 2))))

pub record SizesMet (size n k d m : ℕ) : Type 0 where
  pub few : n ≤ most_reported
  pub keys : k ≡ 200
  pub details : d ≡ 66
  pub long : size ≡ report_size n
  pub count : n ≡ m

sizes_met : (size n k d m : ℕ) → sizes_by size n k d ≡ Ok m → SizesMet size n k d m
sizes_met size n k d m e = record {
  few = grind (arith, nat_tests);
  keys = grind (arith, nat_tests);
  details = grind (arith, nat_tests);
  long = grind (arith, nat_tests);
  count = grind (arith, nat_tests);
}

sizes_made : (size n k d : ℕ) → n ≤ most_reported → k ≡ 200 → d ≡ 66 → size ≡ report_size n → sizes_by size n k d ≡ Ok n
sizes_made size n k d a b c e = grind (arith, nat_tests)

-- ---- sound

pub parts_length : (file : List ℕ) (n i left : ℕ) → length (parts_from file n i left) ≡ left
parts_length file n i zero = refl
parts_length file n i (suc left) = ap suc (parts_length file n (i + 1) left)

six_bytes : (file : List ℕ) → 6 ≤ length file → part file 0 6 ≡ get_or file 0 0 ∷ get_or file 1 0 ∷ get_or file 2 0 ∷ get_or file 3 0 ∷ get_or file 4 0 ∷ get_or file 5 0 ∷ []
six_bytes file l =
    let p0 = part_more file 0 6 (omega arith) l in
    let p1 = part_more file 1 6 (omega arith) l in
    let p2 = part_more file 2 6 (omega arith) l in
    let p3 = part_more file 3 6 (omega arith) l in
    let p4 = part_more file 4 6 (omega arith) l in
    let p5 = part_more file 5 6 (omega arith) l in
    let p6 = part_none file 6 6 (omega arith) in
    cc

header : (file : List ℕ) → Bytes file → 6 ≤ length file → two_at file 2 ≡ 200 → two_at file 4 ≡ 66 → part file 0 6 ≡ two_bytes (two_at file 0) ++ (two_bytes 200 ++ two_bytes 66)
header file b l k d =
    let b1 = b 1 in
    let b3 = b 3 in
    let b5 = b 5 in
    let six = six_bytes file l in
    let n0 : two_at file 0 / 256 ≡ get_or file 0 0 = omega arith in
    let n1 : two_at file 0 % 256 ≡ get_or file 1 0 = omega arith in
    let k0 : get_or file 2 0 ≡ 0 = omega arith in
    let k1 : get_or file 3 0 ≡ 200 = omega arith in
    let d0 : get_or file 4 0 ≡ 0 = omega arith in
    let d1 : get_or file 5 0 ≡ 66 = omega arith in
    cc

-- the checks that were met
pub record Accepted (file : List ℕ) : Type 0 where
  pub few : two_at file 0 ≤ most_reported
  pub key_size : two_at file 2 ≡ 200
  pub details_size : two_at file 4 ≡ 66
  pub long : length file ≡ report_size (two_at file 0)
  pub keys : keys_from file 0 (two_at file 0) ≡ Ok tt
  pub details : details_from file (two_at file 0) 0 (two_at file 0) ≡ Ok tt

pub accepted : (file : List ℕ) → checked file ≡ Ok tt → Accepted file
accepted file e =
    let s = then_ok (sizes_of file) _ tt e in
    let m : SizesMet (length file) (two_at file 0) (two_at file 2) (two_at file 4) s.0 = sizes_met (length file) (two_at file 0) (two_at file 2) (two_at file 4) s.0 s.1 in
    let rest : then (keys_from file 0 (two_at file 0)) (λ _. details_from file (two_at file 0) 0 (two_at file 0)) ≡ Ok tt = subst (λ (k : ℕ). then (keys_from file 0 k) (λ _. details_from file k 0 k) ≡ Ok tt) (sym m.count) s.2 in
    let k = then_ok (keys_from file 0 (two_at file 0)) _ tt rest in
    record { few = m.few; key_size = m.keys; details_size = m.details; long = m.long; keys = k.1; details = k.2 }

three_parts : (file : List ℕ) (n : ℕ) → length file ≡ report_size n → file ≡ part file 0 6 ++ (part file (key_place 0) (key_place (0 + n)) ++ part file (details_place n 0) (details_place n (0 + n)))
three_parts file n l =
    let whole : part file 0 (length file) ≡ file = part_all file 0 in
    let mid : key_place (0 + n) ≡ 6 + 200 * n = omega arith in
    let mid' : details_place n 0 ≡ 6 + 200 * n = omega arith in
    let end : details_place n (0 + n) ≡ length file = omega arith in
    let first : part file 0 (length file) ≡ part file 0 6 ++ part file 6 (length file) = part_split file 0 6 (length file) (omega arith) (omega arith) (omega arith) in
    let second : part file 6 (length file) ≡ part file 6 (6 + 200 * n) ++ part file (6 + 200 * n) (length file) = part_split file 6 (6 + 200 * n) (length file) (omega arith) (omega arith) (omega arith) in
    let keys : part file 6 (6 + 200 * n) ≡ part file (key_place 0) (key_place (0 + n)) = ap (part file 6) (sym mid) in
    let details : part file (6 + 200 * n) (length file) ≡ part file (details_place n 0) (details_place n (0 + n)) = sym (λ i. part file (mid' i) (end i)) in
    sym whole ∙ (first ∙ ap (λ (ys : List ℕ). part file 0 6 ++ ys) (second ∙ (λ i. keys i ++ details i)))

regroup : (a b c d e : List ℕ) → (a ++ (b ++ c)) ++ (d ++ e) ≡ a ++ (b ++ (c ++ (d ++ e)))
regroup a b c d e = simp append_assoc

pub sound : (file : List ℕ) → Bytes file → checked file ≡ Ok tt → Reports file (parts_in file)
sound file b e =
    let m : Accepted file = accepted file e in
    let n : ℕ = two_at file 0 in
    let long = m.long in
    let few = m.few in
    let count : length (parts_in file) ≡ two_at file 0 = parts_length file (two_at file 0) 0 (two_at file 0) in
    let head = header file b (omega arith) m.key_size m.details_size in
    let keys = joined_keys file (two_at file 0) 0 (two_at file 0) (omega arith) m.keys in
    let details = joined_details file (two_at file 0) 0 (two_at file 0) (omega arith) m.details in
    let two : two_bytes (two_at file 0) ≡ two_bytes (length (parts_in file)) = ap (λ (k : ℕ). two_bytes k) (sym count) in
    record {
      bytes = three_parts file (two_at file 0) long
          ∙ ((λ i. head i ++ (keys i ++ details i))
          ∙ (regroup (two_bytes (two_at file 0)) (two_bytes 200) (two_bytes 66) (flat_map key_bytes (parts_in file)) (flat_map details_bytes (parts_in file))
          ∙ ap (λ (ys : List ℕ). ys ++ (two_bytes 200 ++ (two_bytes 66 ++ (flat_map key_bytes (parts_in file) ++ flat_map details_bytes (parts_in file))))) two));
      rising = (ascending file (two_at file 0) 0 (two_at file 0) (omega arith) m.keys).rising;
      few = omega arith;
    }

-- ---- complete

joined_key_size : (ps : List (Part Key Details)) → length (flat_map key_bytes ps) ≡ 200 * length ps
joined_key_size [] = refl
joined_key_size (p ∷ ps) = omega (arith, length-append (key_bytes p) (flat_map key_bytes ps), key_size_lem p, joined_key_size ps)

joined_details_size : (ps : List (Part Key Details)) → length (flat_map details_bytes ps) ≡ 66 * length ps
joined_details_size [] = refl
joined_details_size (p ∷ ps) = omega (arith, length-append (details_bytes p) (flat_map details_bytes ps), details_size_lem p, joined_details_size ps)

-- where the parts of a report stand
record Standing (file : List ℕ) (ps : List (Part Key Details)) : Type 0 where
  long : length file ≡ report_size (length ps)
  head : part file 0 6 ≡ two_bytes (length ps) ++ (two_bytes 200 ++ two_bytes 66)
  keys : part file (key_place 0) (key_place (0 + length ps)) ≡ flat_map key_bytes ps
  details : part file (details_place (length ps) 0) (details_place (length ps) (0 + length ps)) ≡ flat_map details_bytes ps

standing : (file : List ℕ) (ps : List (Part Key Details)) → file ≡ report_bytes ps → Standing file ps
standing file ps e =
    let n : ℕ = length ps in
    let head : List ℕ = two_bytes (length ps) ++ (two_bytes 200 ++ two_bytes 66) in
    let ks : List ℕ = flat_map key_bytes ps in
    let ds : List ℕ = flat_map details_bytes ps in
    let grouped : file ≡ head ++ (ks ++ ds) = e ∙ sym (regroup (two_bytes (length ps)) (two_bytes 200) (two_bytes 66) ks ds) in
    let a1 = length-append head (ks ++ ds) in
    let a2 = length-append ks ds in
    let k = joined_key_size ps in
    let d = joined_details_size ps in
    let six : length head ≡ 6 = refl in
    let long : length file ≡ report_size (length ps) = (let z : length file ≡ length (head ++ (ks ++ ds)) = ap length grouped in omega arith) in
    let split : part file 0 6 ++ part file 6 (length file) ≡ head ++ (ks ++ ds) = sym (part_split file 0 6 (length file) (omega arith) (omega arith) (omega arith)) ∙ (part_all file 0 ∙ grouped) in
    let n0 : length (part file 0 6) ≡ 6 - 0 = part_length file 0 6 (omega arith) in
    let h = same_halves (part file 0 6) head (part file 6 (length file)) (ks ++ ds) (omega arith) split in
    let n1 : length (part file 6 (6 + 200 * length ps)) ≡ 6 + 200 * length ps - 6 = part_length file 6 (6 + 200 * length ps) (omega arith) in
    let g = same_halves (part file 6 (6 + 200 * length ps)) ks (part file (6 + 200 * length ps) (length file)) ds (omega arith) (sym (part_split file 6 (6 + 200 * length ps) (length file) (omega arith) (omega arith) (omega arith)) ∙ h.1) in
    let mid : key_place (0 + length ps) ≡ 6 + 200 * length ps = omega arith in
    let mid' : details_place (length ps) 0 ≡ 6 + 200 * length ps = omega arith in
    let end : details_place (length ps) (0 + length ps) ≡ length file = omega arith in
    record {
      long = long;
      head = h.0;
      keys = ap (part file 6) mid ∙ g.0;
      details = (λ i. part file (mid' i) (end i)) ∙ g.1;
    }

record HeaderBack (file : List ℕ) (n : ℕ) : Type 0 where
  count : two_at file 0 ≡ n
  key_size : two_at file 2 ≡ 200
  details_size : two_at file 4 ≡ 66

header_back : (file : List ℕ) (n : ℕ) → 6 ≤ length file → part file 0 6 ≡ two_bytes n ++ (two_bytes 200 ++ two_bytes 66) → HeaderBack file n
header_back file n l e =
    let six = six_bytes file l in
    let g0 : get_or file 0 0 ≡ n / 256 = cc in
    let g1 : get_or file 1 0 ≡ n % 256 = cc in
    let g2 : get_or file 2 0 ≡ 0 = cc in
    let g3 : get_or file 3 0 ≡ 200 = cc in
    let g4 : get_or file 4 0 ≡ 0 = cc in
    let g5 : get_or file 5 0 ≡ 66 = cc in
    record { count = omega arith; key_size = omega arith; details_size = omega arith }

record Back (file : List ℕ) (ps : List (Part Key Details)) : Type 0 where
  checks : checked file ≡ Ok tt
  parts : parts_in file ≡ ps

complete : (file : List ℕ) (ps : List (Part Key Details)) → Reports file ps → Back file ps
complete file ps r =
    let s : Standing file ps = standing file ps r.bytes in
    let long = s.long in
    let few = r.few in
    let h : HeaderBack file (length ps) = header_back file (length ps) (omega arith) s.head in
    let b : PartsBack file (length ps) 0 ps = parts_back file (length ps) 0 ps (omega arith) (omega arith) s.keys s.details r.rising (inl refl) in
    let count : two_at file 0 ≡ length ps = h.count in
    let sizes : sizes_of file ≡ Ok (two_at file 0) = sizes_made (length file) (two_at file 0) (two_at file 2) (two_at file 4) (omega arith) h.key_size h.details_size (omega arith) in
    let keys : keys_from file 0 (two_at file 0) ≡ Ok tt = ap (keys_from file 0) count ∙ b.keys in
    let details : details_from file (two_at file 0) 0 (two_at file 0) ≡ Ok tt = (λ i. details_from file (count i) 0 (count i)) ∙ b.details in
    record {
      checks = rw (sizes, keys) details;
      parts = (λ i. parts_from file (count i) 0 (count i)) ∙ b.parts;
    }

-- ---- what the check tells

pub told : (file : List ℕ) (r : Result (Unit {0}) Refusal) → Bytes file → r ≡ checked file → Told file r
told file (Ok u) b e = record {
  parts = parts_in file;
  reports = sound file b (sym e);
  alone = λ ps h. sym (complete file ps h).parts;
}
told file (Err d) b e = λ ps h. err_ok (e ∙ (complete file ps h).checks)
