-- The report of some parts is accepted, and its parts are read back.
use Rattle.std.proofs.Common.{◌≡◌, ℕ, zero, suc, ◌+◌, ◌-◌, ◌<◌, ◌≤◌, Bool, true, false, ◌&&◌, leb, ◌⊎◌, List, [], ◌∷◌, ◌++◌, length, get_or, drop, replicate, is_some, Some, None, Ok, Option, sym, refl, ap, ◌∙◌, inl, inr, arith}
use Rattle.std.specs.List.{flat_map}
use Rattle.std.proofs.lemmas.Bool.Decides.{nat_tests}
use Rattle.std.proofs.lemmas.List.{length-append, length-replicate}
use Rattle.std.proofs.lemmas.Bool.{le-leb}
use Rattle.std.specs.Ordering.{is_lt}
use Rattle.der.specs.Numbers.{part}
use Rattle.der.proofs.Parts.{part_length, part_more, part_split, same_halves}
use Rattle.model.specs.declared.part.Part.{Part}
use Rattle.model.specs.Parts.{AllAbove, Rising}
use Rattle.parts.specs.declared.key.Key.{Key}
use Rattle.parts.specs.declared.details.Details.{Details}
use Rattle.parts.specs.Bounds.{content}
use Rattle.parts.specs.Keys.{Fields, fields_of, registry_of, in_turn, order}
use Rattle.parts.specs.Details.{replaceable_of}
use Rattle.parts.proofs.Built.{Good, good_fields, key_from, key_back, revision_small, details_back, details_from}
use Rattle.report.specs.Layout.{key_place, details_place, text_at, fields_at}
use Rattle.report.specs.Checks.{all_zero, text_field_at, key_at, rises_at, keys_from, details_at, details_from as details_checked}
use Rattle.report.specs.Meaning.{part_at, parts_from}
use Rattle.report.specs.Format.{text_bytes, field_bytes, key_bytes, replaceable_number, details_bytes}
use Rattle.report.proofs.Steps.{rises_from, rises_first}
use Rattle.report.proofs.Sound.{key_split}

zero_bytes : (n : ℕ) → all_zero (replicate n 0) ≡ true
zero_bytes zero = refl
zero_bytes (suc n) = zero_bytes n

text_size : (xs : List ℕ) → length xs ≤ 64 → length (text_bytes xs) ≡ 65
text_size xs h =
    let zeros : List ℕ = replicate (64 - length xs) 0 in
    let n : length (xs ++ zeros) ≡ length xs + length zeros = length-append xs zeros in
    let m : length zeros ≡ 64 - length xs = length-replicate (64 - length xs) 0 in
    let k : length (text_bytes xs) ≡ suc (length (xs ++ zeros)) = refl in
    omega arith

-- ---- a text field

record TextBack (file : List ℕ) (at : ℕ) (xs : List ℕ) : Type 0 where
  size : get_or file at 0 ≡ length xs
  text : text_at file at ≡ xs
  zeros : all_zero (part file (at + 1 + get_or file at 0) (at + 65)) ≡ true

text_back : (file : List ℕ) (at : ℕ) (xs : List ℕ) → at + 65 ≤ length file → length xs ≤ 64 → part file at (at + 65) ≡ text_bytes xs → TextBack file at xs
text_back file at xs l h e =
    let first : part file at (at + 65) ≡ get_or file at 0 ∷ part file (at + 1) (at + 65) = part_more file at (at + 65) (omega arith) l in
    let both : get_or file at 0 ∷ part file (at + 1) (at + 65) ≡ length xs ∷ (xs ++ replicate (64 - length xs) 0) = sym first ∙ e in
    let size : get_or file at 0 ≡ length xs = cc in
    let body : part file (at + 1) (at + 65) ≡ xs ++ replicate (64 - length xs) 0 = cc in
    let mid : ℕ = at + 1 + get_or file at 0 in
    let split : part file (at + 1) (at + 65) ≡ part file (at + 1) mid ++ part file mid (at + 65) = part_split file (at + 1) mid (at + 65) (omega arith) (omega arith) l in
    let n : length (part file (at + 1) mid) ≡ mid - (at + 1) = part_length file (at + 1) mid (omega arith) in
    let halves = same_halves (part file (at + 1) mid) xs (part file mid (at + 65)) (replicate (64 - length xs) 0) (omega arith) (sym split ∙ body) in
    record { size = size; text = halves.0; zeros = ap all_zero halves.1 ∙ zero_bytes (64 - length xs) }

text_made : (file : List ℕ) (at least : ℕ) (xs : List ℕ) → least ≤ length xs → length xs ≤ 64 → TextBack file at xs → text_field_at file at least ≡ Ok tt
text_made file at least xs a b t =
    let size = t.size in
    let fits : (leb least (get_or file at 0) && leb (get_or file at 0) 64) ≡ true = grind (arith, nat_tests) in
    rw (fits, t.zeros) refl

-- ---- a key

record KeyBack (file : List ℕ) (at : ℕ) (f : Fields) : Type 0 where
  checks : key_at file at ≡ Ok tt
  fields : fields_at file at ≡ f

key_read : (file : List ℕ) (at : ℕ) (f : Fields) → at + 200 ≤ length file → Good f → part file at (at + 200) ≡ field_bytes f → KeyBack file at f
key_read file at f l g e =
    let class_size : length f.class ≡ 4 = g.class in
    let maker_low : 1 ≤ length f.maker = g.maker.0 in
    let maker_high : length f.maker ≤ 64 = g.maker.1 in
    let model_low : 1 ≤ length f.model = g.model.0 in
    let model_high : length f.model ≤ 64 = g.model.1 in
    let serial_low : 1 ≤ length f.serial = g.serial.0 in
    let serial_high : length f.serial ≤ 64 = g.serial.1 in
    let both : get_or file at 0 ∷ (part file (at + 1) (at + 5) ++ (part file (at + 5) (at + 5 + 65) ++ (part file (at + 70) (at + 70 + 65) ++ part file (at + 135) (at + 135 + 65)))) ≡ f.registry ∷ (f.class ++ (text_bytes f.maker ++ (text_bytes f.model ++ text_bytes f.serial))) = sym (key_split file at l) ∙ e in
    let registry : get_or file at 0 ≡ f.registry = cc in
    let h1 = same_halves (part file (at + 1) (at + 5)) f.class _ _ (let n = part_length file (at + 1) (at + 5) (omega arith) in omega arith) (ap (drop 1) both) in
    let h2 = same_halves (part file (at + 5) (at + 5 + 65)) (text_bytes f.maker) _ _ (let n = part_length file (at + 5) (at + 5 + 65) (omega arith) in let s = text_size f.maker maker_high in omega arith) h1.1 in
    let h3 = same_halves (part file (at + 70) (at + 70 + 65)) (text_bytes f.model) _ _ (let n = part_length file (at + 70) (at + 70 + 65) (omega arith) in let s = text_size f.model model_high in omega arith) h2.1 in
    let maker = text_back file (at + 5) f.maker (omega arith) maker_high h2.0 in
    let model = text_back file (at + 70) f.model (omega arith) model_high h3.0 in
    let serial = text_back file (at + 135) f.serial (omega arith) serial_high h3.1 in
    let known = ap (λ (k : ℕ). is_some (registry_of k)) registry ∙ g.registry in
    record {
      checks = rw (known, text_made file (at + 5) 1 f.maker maker_low maker_high maker, text_made file (at + 70) 1 f.model model_low model_high model) (text_made file (at + 135) 1 f.serial serial_low serial_high serial);
      fields = λ i. record { registry = registry i; class = h1.0 i; maker = maker.text i; model = model.text i; serial = serial.text i };
    }

-- ---- details

record DetailsBack (file : List ℕ) (at : ℕ) (d : Details) : Type 0 where
  checks : details_at file at ≡ Ok tt
  revision : text_at file at ≡ content d.revision
  number : get_or file (at + 65) 0 ≡ replaceable_number d.replaceable

number_small : (r : Option Bool) → replaceable_number r ≤ 2
number_small None = omega arith
number_small (Some false) = omega arith
number_small (Some true) = omega arith

number_back : (r : Option Bool) → replaceable_of (replaceable_number r) ≡ Some r
number_back None = refl
number_back (Some false) = refl
number_back (Some true) = refl

details_read : (file : List ℕ) (at : ℕ) (d : Details) → at + 66 ≤ length file → part file at (at + 66) ≡ text_bytes (content d.revision) ++ (replaceable_number d.replaceable ∷ []) → DetailsBack file at d
details_read file at d l e =
    let small : length (content d.revision) ≤ 64 = revision_small d in
    let n : length (part file at (at + 65)) ≡ at + 65 - at = part_length file at (at + 65) (omega arith) in
    let s = text_size (content d.revision) small in
    let h = same_halves (part file at (at + 65)) (text_bytes (content d.revision)) (part file (at + 65) (at + 66)) (replaceable_number d.replaceable ∷ []) (omega arith) (sym (part_split file at (at + 65) (at + 66) (omega arith) (omega arith) l) ∙ e) in
    let last : get_or file (at + 65) 0 ∷ part file (at + 65 + 1) (at + 66) ≡ replaceable_number d.replaceable ∷ [] = sym (part_more file (at + 65) (at + 66) (omega arith) l) ∙ h.1 in
    let number : get_or file (at + 65) 0 ≡ replaceable_number d.replaceable = cc in
    let bound = number_small d.replaceable in
    let text = text_back file at (content d.revision) (omega arith) small h.0 in
    let good : leb (get_or file (at + 65) 0) 2 ≡ true = le-leb (get_or file (at + 65) 0) 2 (omega arith) in
    record {
      checks = rw (text_made file at 0 (content d.revision) (omega arith) small text, good) refl;
      revision = text.text;
      number = number;
    }

-- ---- all of them

-- the key before those that follow, where there is one
abbrev pub Before : List ℕ → ℕ → List (Part Key Details) → Type 0
Before file i ps = (i ≡ 0) ⊎ ((0 < i) × ((k : Key) × (fields_at file (key_place (i - 1)) ≡ fields_of k) × AllAbove order k ps))

pub key_size_lem : (p : Part Key Details) → length (key_bytes p) ≡ 200
key_size_lem p =
    let g = good_fields p.key in
    let f = fields_of p.key in
    let c : length f.class ≡ 4 = g.class in
    let m = text_size f.maker g.maker.1 in
    let n = text_size f.model g.model.1 in
    let o = text_size f.serial g.serial.1 in
    let a1 = length-append (text_bytes f.model) (text_bytes f.serial) in
    let a2 = length-append (text_bytes f.maker) (text_bytes f.model ++ text_bytes f.serial) in
    let a3 = length-append f.class (text_bytes f.maker ++ (text_bytes f.model ++ text_bytes f.serial)) in
    let k : length (key_bytes p) ≡ suc (length (f.class ++ (text_bytes f.maker ++ (text_bytes f.model ++ text_bytes f.serial)))) = refl in
    omega arith

pub details_size_lem : (p : Part Key Details) → length (details_bytes p) ≡ 66
details_size_lem p =
    let m = text_size (content p.details.revision) (revision_small p.details) in
    let a = length-append (text_bytes (content p.details.revision)) (replaceable_number p.details.replaceable ∷ []) in
    omega arith

pub record PartsBack (file : List ℕ) (n i : ℕ) (ps : List (Part Key Details)) : Type 0 where
  pub keys : keys_from file i (length ps) ≡ Ok tt
  pub details : details_checked file n i (length ps) ≡ Ok tt
  pub parts : parts_from file n i (length ps) ≡ ps

part_back : (file : List ℕ) (n i : ℕ) (p : Part Key Details) → KeyBack file (key_place i) (fields_of p.key) → DetailsBack file (details_place n i) p.details → part_at file n i ≡ p
part_back file n i p k d =
    let key : key_from (fields_at file (key_place i)) ≡ p.key = ap key_from k.fields ∙ key_back p.key in
    let known : replaceable_of (get_or file (details_place n i + 65) 0) ≡ Some p.details.replaceable = ap replaceable_of d.number ∙ number_back p.details.replaceable in
    let details : details_from (text_at file (details_place n i)) (get_or file (details_place n i + 65) 0) ≡ p.details = ap (λ (xs : List ℕ). details_from xs (get_or file (details_place n i + 65) 0)) d.revision ∙ details_back p.details (get_or file (details_place n i + 65) 0) known in
    λ j. record { key = key j; details = details j }

pub parts_back : (file : List ℕ) (n i : ℕ) (ps : List (Part Key Details)) → key_place (i + length ps) ≤ length file → details_place n (i + length ps) ≤ length file
    → part file (key_place i) (key_place (i + length ps)) ≡ flat_map key_bytes ps → part file (details_place n i) (details_place n (i + length ps)) ≡ flat_map details_bytes ps
    → Rising order ps → Before file i ps → PartsBack file n i ps
parts_back file n i [] lk ld ek ed r b = record { keys = refl; details = refl; parts = refl }
parts_back file n i (p ∷ ps) lk ld ek ed r b =
    let knext : key_place i + 200 ≡ key_place (i + 1) = omega arith in
    let dnext : details_place n i + 66 ≡ details_place n (i + 1) = omega arith in
    let end : i + 1 + length ps ≡ i + length (p ∷ ps) = omega arith in
    let ksize = key_size_lem p in
    let dsize = details_size_lem p in
    let kn : length (part file (key_place i) (key_place (i + 1))) ≡ key_place (i + 1) - key_place i = part_length file (key_place i) (key_place (i + 1)) (omega arith) in
    let dn : length (part file (details_place n i) (details_place n (i + 1))) ≡ details_place n (i + 1) - details_place n i = part_length file (details_place n i) (details_place n (i + 1)) (omega arith) in
    let kh = same_halves (part file (key_place i) (key_place (i + 1))) (key_bytes p) (part file (key_place (i + 1)) (key_place (i + length (p ∷ ps)))) (flat_map key_bytes ps) (omega arith)
    (sym (part_split file (key_place i) (key_place (i + 1)) (key_place (i + length (p ∷ ps))) (omega arith) (omega arith) lk) ∙ ek) in
    let dh = same_halves (part file (details_place n i) (details_place n (i + 1))) (details_bytes p) (part file (details_place n (i + 1)) (details_place n (i + length (p ∷ ps)))) (flat_map details_bytes ps) (omega arith)
    (sym (part_split file (details_place n i) (details_place n (i + 1)) (details_place n (i + length (p ∷ ps))) (omega arith) (omega arith) ld) ∙ ed) in
    let k : KeyBack file (key_place i) (fields_of p.key) = key_read file (key_place i) (fields_of p.key) (omega arith) (good_fields p.key) (ap (part file (key_place i)) knext ∙ kh.0) in
    let d : DetailsBack file (details_place n i) p.details = details_read file (details_place n i) p.details (omega arith) (ap (part file (details_place n i)) dnext ∙ dh.0) in
    let back : i + 1 - 1 ≡ i = omega arith in
    let before : Before file (i + 1) ps = inr (omega arith, (p.key, ap (λ (m : ℕ). fields_at file (key_place m)) back ∙ k.fields, r.0)) in
    let rest : PartsBack file n (i + 1) ps = parts_back file n (i + 1) ps (omega arith) (omega arith) (ap (λ (m : ℕ). part file (key_place (i + 1)) (key_place m)) end ∙ kh.1) (ap (λ (m : ℕ). part file (details_place n (i + 1)) (details_place n m)) end ∙ dh.1) r.1 before in
    let up : rises_at file i ≡ true = elim b [
      | inl z ↦ rises_first file i (omega arith)
      | inr w ↦ rises_from file i true w.0 (sym ((λ j. is_lt (in_turn (w.1.1 j) (k.fields j))) ∙ ap is_lt w.1.2.0))
    ] in
    record {
      keys = rw (k.checks, up) rest.keys;
      details = rw d.checks rest.details;
      parts = λ j. part_back file n i p k d j ∷ rest.parts j;
    }
