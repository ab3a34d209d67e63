-- A file that is accepted is the report of its parts.
use Rattle.std.proofs.Common.{◌≡◌, ℕ, zero, suc, ◌+◌, ◌-◌, ◌<◌, ◌≤◌, true, ◌&&◌, eqb, leb, List, [], ◌∷◌, ◌++◌, length, get_or, replicate, Ok, Ordering, Less, Equal, Greater, sym, refl, ap, ◌∙◌, subst, arith}
use Rattle.std.specs.List.{flat_map}
use Rattle.std.proofs.lemmas.Bool.Decides.{nat_tests}
use Rattle.std.proofs.lemmas.Bool.{false≢true, and_parts, eqb-true, leb-true}
use Rattle.std.specs.Ordering.{is_lt}
use Rattle.model.specs.Parts.{AllAbove, Rising}
use Rattle.model.proofs.Lists.{lower}
use Rattle.parts.specs.declared.key.Key.{Key}
use Rattle.parts.proofs.Lawful.{order_lawful}
use Rattle.der.specs.Numbers.{part}
use Rattle.der.proofs.Parts.{part_length, part_none, part_more, part_split}
use Rattle.parts.specs.Keys.{in_turn, order}
use Rattle.parts.specs.Bounds.{content}
use Rattle.parts.specs.Details.{replaceable_of}
use Rattle.parts.proofs.Built.{Good, key_from, key_from_lem, bounded_or, bounded_or_lem, none, known_or}
use Rattle.report.specs.Layout.{key_place, details_place, text_at, fields_at}
use Rattle.report.specs.WellFormed.{Text, KeyGood}
use Rattle.report.specs.Checks.{all_zero, text_field_at, key_at, rises_at, keys_from, details_at, details_from as details_checked}
use Rattle.report.specs.Meaning.{part_at, parts_from}
use Rattle.report.specs.Format.{text_bytes, field_bytes, key_bytes, replaceable_number, details_bytes}
use Rattle.report.proofs.Steps.{then_ok, cond_ok, text_good, KeyMet, key_met, key_good, rises_from}

zeros : (xs : List ℕ) → all_zero xs ≡ true → xs ≡ replicate (length xs) 0
zeros [] e = refl
zeros (x ∷ xs) e =
    let p = and_parts (eqb x 0) (all_zero xs) e in
    λ i. eqb-true x 0 p.0 i ∷ zeros xs p.1 i

pub text_length : (file : List ℕ) (at : ℕ) → at + 65 ≤ length file → get_or file at 0 ≤ 64 → length (text_at file at) ≡ get_or file at 0
text_length file at l h = let n = part_length file (at + 1) (at + 1 + get_or file at 0) (omega arith) in omega arith

-- a text field is the bytes of its text
pub text_bytes_lem : (file : List ℕ) (at least : ℕ) → at + 65 ≤ length file → text_field_at file at least ≡ Ok tt → part file at (at + 65) ≡ text_bytes (text_at file at)
text_bytes_lem file at least l e =
    let n : ℕ = get_or file at 0 in
    let g = text_good file at least e in
    let small : get_or file at 0 ≤ 64 = g.high in
    let p = cond_ok (leb least (get_or file at 0) && leb (get_or file at 0) 64) _ _ at tt e in
    let z = cond_ok (all_zero (part file (at + 1 + get_or file at 0) (at + 65))) _ _ at tt p.1 in
    let first : part file at (at + 65) ≡ get_or file at 0 ∷ part file (at + 1) (at + 65) = part_more file at (at + 65) (omega arith) l in
    let split : part file (at + 1) (at + 65) ≡ text_at file at ++ part file (at + 1 + get_or file at 0) (at + 65) = part_split file (at + 1) (at + 1 + get_or file at 0) (at + 65) (omega arith) (omega arith) l in
    let long : length (text_at file at) ≡ get_or file at 0 = text_length file at l small in
    let pad : length (part file (at + 1 + get_or file at 0) (at + 65)) ≡ 64 - length (text_at file at) = (let k = part_length file (at + 1 + get_or file at 0) (at + 65) l in omega arith) in
    let rest : part file (at + 1 + get_or file at 0) (at + 65) ≡ replicate (64 - length (text_at file at)) 0 = zeros (part file (at + 1 + get_or file at 0) (at + 65)) z.0 ∙ ap (λ (k : ℕ). replicate k 0) pad in
    let header : get_or file at 0 ≡ length (text_at file at) = sym long in
    let body : part file (at + 1) (at + 65) ≡ text_at file at ++ replicate (64 - length (text_at file at)) 0 = split ∙ ap (λ (ys : List ℕ). text_at file at ++ ys) rest in
    first ∙ (λ i. header i ∷ body i)

-- ---- keys

pub text_in : (file : List ℕ) (at : ℕ) → at + 65 ≤ length file → Text file at 1 → (1 ≤ length (text_at file at)) × (length (text_at file at) ≤ 64)
text_in file at l g =
    let low = g.low in
    let high = g.high in
    let n = text_length file at l high in
    (omega arith, omega arith)

-- the fields of a good key are those of a key
pub fields_good : (file : List ℕ) (at : ℕ) → at + 200 ≤ length file → KeyGood file at → Good (fields_at file at)
fields_good file at l g = record {
  registry = g.registry;
  class = (let n = part_length file (at + 1) (at + 5) (omega arith) in omega arith);
  maker = text_in file (at + 5) (omega arith) g.maker;
  model = text_in file (at + 70) (omega arith) g.model;
  serial = text_in file (at + 135) (omega arith) g.serial;
}

-- a key's bytes, field by field
pub key_split : (file : List ℕ) (at : ℕ) → at + 200 ≤ length file → part file at (at + 200) ≡ get_or file at 0 ∷ (part file (at + 1) (at + 5) ++ (part file (at + 5) (at + 5 + 65) ++ (part file (at + 70) (at + 70 + 65) ++ part file (at + 135) (at + 135 + 65))))
key_split file at l =
    let a5 : at + 5 + 65 ≡ at + 70 = omega arith in
    let a70 : at + 70 + 65 ≡ at + 135 = omega arith in
    let a135 : at + 135 + 65 ≡ at + 200 = omega arith in
    let first = part_more file at (at + 200) (omega arith) l in
    let class = part_split file (at + 1) (at + 5) (at + 200) (omega arith) (omega arith) l in
    let maker = part_split file (at + 5) (at + 70) (at + 200) (omega arith) (omega arith) l in
    let model = part_split file (at + 70) (at + 135) (at + 200) (omega arith) (omega arith) l in
    rw (a5, a70, a135) cc

pub field_bytes_lem : (file : List ℕ) (at : ℕ) → at + 200 ≤ length file → key_at file at ≡ Ok tt → part file at (at + 200) ≡ field_bytes (fields_at file at)
field_bytes_lem file at l e =
    let met : KeyMet file at = key_met file at e in
    let maker = text_bytes_lem file (at + 5) 1 (omega arith) met.maker in
    let model = text_bytes_lem file (at + 70) 1 (omega arith) met.model in
    let serial = text_bytes_lem file (at + 135) 1 (omega arith) met.serial in
    key_split file at l ∙ (λ j. get_or file at 0 ∷ (part file (at + 1) (at + 5) ++ (maker j ++ (model j ++ serial j))))

-- ---- details

number_known : (n : ℕ) → n ≤ 2 → replaceable_number (known_or (replaceable_of n)) ≡ n
number_known n h = grind (arith, nat_tests)

pub record DetailsMet (file : List ℕ) (at : ℕ) : Type 0 where
  pub revision : text_field_at file at 0 ≡ Ok tt
  pub replaceable : get_or file (at + 65) 0 ≤ 2

pub details_met : (file : List ℕ) (at : ℕ) → details_at file at ≡ Ok tt → DetailsMet file at
details_met file at e =
    let p = then_ok (text_field_at file at 0) _ tt e in
    let q = cond_ok (leb (get_or file (at + 65) 0) 2) _ _ (at + 65) tt p.2 in
    record { revision = p.1; replaceable = leb-true (get_or file (at + 65) 0) 2 q.0 }

revision_held : (file : List ℕ) (at : ℕ) → at + 65 ≤ length file → DetailsMet file at → content (bounded_or none (text_at file at)) ≡ text_at file at
revision_held file at l m =
    let g = text_good file at 0 m.revision in
    let high = g.high in
    let n = text_length file at l high in
    bounded_or_lem none (text_at file at) (omega arith) (omega arith)

pub details_bytes_lem : (file : List ℕ) (n i : ℕ) → details_place n i + 66 ≤ length file → details_at file (details_place n i) ≡ Ok tt → part file (details_place n i) (details_place n i + 66) ≡ details_bytes (part_at file n i)
details_bytes_lem file n i l e = go (details_place n i) l e
  where
    go : (at : ℕ) → at + 66 ≤ length file → details_at file at ≡ Ok tt → part file at (at + 66) ≡ text_bytes (content (bounded_or none (text_at file at))) ++ (replaceable_number (known_or (replaceable_of (get_or file (at + 65) 0))) ∷ [])
    go at l e =
        let m : DetailsMet file at = details_met file at e in
        let split : part file at (at + 66) ≡ part file at (at + 65) ++ part file (at + 65) (at + 66) = part_split file at (at + 65) (at + 66) (omega arith) (omega arith) l in
        let text : part file at (at + 65) ≡ text_bytes (text_at file at) = text_bytes_lem file at 0 (omega arith) m.revision in
        let next : at + 65 + 1 ≡ at + 66 = omega arith in
        let last : part file (at + 65) (at + 66) ≡ get_or file (at + 65) 0 ∷ [] = part_more file (at + 65) (at + 66) (omega arith) l ∙ ap (λ (ys : List ℕ). get_or file (at + 65) 0 ∷ ys) (part_none file (at + 65 + 1) (at + 66) (omega arith)) in
        let number = number_known (get_or file (at + 65) 0) m.replaceable in
        let held = revision_held file at (omega arith) m in
        split ∙ (λ j. (text ∙ ap (λ (ys : List ℕ). text_bytes ys) (sym held)) j ++ (last ∙ ap (λ (k : ℕ). k ∷ []) (sym number)) j)

-- ---- all keys

-- the checks of one key and of those behind it
pub record KeysMet (file : List ℕ) (i left : ℕ) : Type 0 where
  pub key : key_at file (key_place i) ≡ Ok tt
  pub rises : rises_at file i ≡ true
  pub more : keys_from file (i + 1) left ≡ Ok tt

pub keys_met : (file : List ℕ) (i left : ℕ) → keys_from file i (suc left) ≡ Ok tt → KeysMet file i left
keys_met file i left e =
    let p = then_ok (key_at file (key_place i)) _ tt e in
    let q = cond_ok (rises_at file i) _ _ (key_place i) tt p.2 in
    record { key = p.1; rises = q.0; more = q.1 }

pub joined_keys : (file : List ℕ) (n i left : ℕ) → key_place (i + left) ≤ length file → keys_from file i left ≡ Ok tt → part file (key_place i) (key_place (i + left)) ≡ flat_map key_bytes (parts_from file n i left)
joined_keys file n i zero l e = part_none file (key_place i) (key_place (i + 0)) (omega arith)
joined_keys file n i (suc left) l e =
    let m : KeysMet file i left = keys_met file i left e in
    let next : key_place i + 200 ≡ key_place (i + 1) = omega arith in
    let end : i + 1 + left ≡ i + suc left = omega arith in
    let split : part file (key_place i) (key_place (i + suc left)) ≡ part file (key_place i) (key_place (i + 1)) ++ part file (key_place (i + 1)) (key_place (i + suc left)) = part_split file (key_place i) (key_place (i + 1)) (key_place (i + suc left)) (omega arith) (omega arith) l in
    let good : Good (fields_at file (key_place i)) = fields_good file (key_place i) (omega arith) (key_good file (key_place i) m.key) in
    let here : part file (key_place i) (key_place (i + 1)) ≡ key_bytes (part_at file n i) = ap (part file (key_place i)) (sym next) ∙ (field_bytes_lem file (key_place i) (omega arith) m.key ∙ ap field_bytes (sym (key_from_lem (fields_at file (key_place i)) good))) in
    let rest : part file (key_place (i + 1)) (key_place (i + suc left)) ≡ flat_map key_bytes (parts_from file n (i + 1) left) = ap (λ (k : ℕ). part file (key_place (i + 1)) (key_place k)) (sym end) ∙ joined_keys file n (i + 1) left (omega arith) m.more in
    split ∙ (λ j. here j ++ rest j)

pub joined_details : (file : List ℕ) (n i left : ℕ) → details_place n (i + left) ≤ length file → details_checked file n i left ≡ Ok tt → part file (details_place n i) (details_place n (i + left)) ≡ flat_map details_bytes (parts_from file n i left)
joined_details file n i zero l e = part_none file (details_place n i) (details_place n (i + 0)) (omega arith)
joined_details file n i (suc left) l e =
    let m = then_ok (details_at file (details_place n i)) _ tt e in
    let here_met : details_at file (details_place n i) ≡ Ok tt = m.1 in
    let more_met : details_checked file n (i + 1) left ≡ Ok tt = m.2 in
    let next : details_place n i + 66 ≡ details_place n (i + 1) = omega arith in
    let end : i + 1 + left ≡ i + suc left = omega arith in
    let split : part file (details_place n i) (details_place n (i + suc left)) ≡ part file (details_place n i) (details_place n (i + 1)) ++ part file (details_place n (i + 1)) (details_place n (i + suc left)) = part_split file (details_place n i) (details_place n (i + 1)) (details_place n (i + suc left)) (omega arith) (omega arith) l in
    let here : part file (details_place n i) (details_place n (i + 1)) ≡ details_bytes (part_at file n i) = ap (part file (details_place n i)) (sym next) ∙ details_bytes_lem file n i (omega arith) here_met in
    let rest : part file (details_place n (i + 1)) (details_place n (i + suc left)) ≡ flat_map details_bytes (parts_from file n (i + 1) left) = ap (λ (k : ℕ). part file (details_place n (i + 1)) (details_place n k)) (sym end) ∙ joined_details file n (i + 1) left (omega arith) more_met in
    split ∙ (λ j. here j ++ rest j)

-- ---- rising

abbrev key_in : List ℕ → ℕ → Key
key_in file i = key_from (fields_at file (key_place i))

is_less : (o : Ordering) → is_lt o ≡ true → o ≡ Less
is_less Less h = refl
is_less Equal h = absurd (false≢true h)
is_less Greater h = absurd (false≢true h)

rises_met : (file : List ℕ) (i : ℕ) → 0 < i → Good (fields_at file (key_place (i - 1))) → Good (fields_at file (key_place i)) → rises_at file i ≡ true → order (key_in file (i - 1)) (key_in file i) ≡ Less
rises_met file i h g g' e =
    let less : is_lt (in_turn (fields_at file (key_place (i - 1))) (fields_at file (key_place i))) ≡ true = sym (rises_from file i _ h refl) ∙ e in
    (λ j. in_turn (key_from_lem _ g j) (key_from_lem _ g' j)) ∙ is_less _ less

pub record Ascending (file : List ℕ) (n i left : ℕ) : Type 0 where
  pub rising : Rising order (parts_from file n i left)
  pub above : 0 < i → Good (fields_at file (key_place (i - 1))) → AllAbove order (key_in file (i - 1)) (parts_from file n i left)

pub ascending : (file : List ℕ) (n i left : ℕ) → key_place (i + left) ≤ length file → keys_from file i left ≡ Ok tt → Ascending file n i left
ascending file n i zero l e = record { rising = tt; above = λ h g. tt }
ascending file n i (suc left) l e =
    let m : KeysMet file i left = keys_met file i left e in
    let good : Good (fields_at file (key_place i)) = fields_good file (key_place i) (omega arith) (key_good file (key_place i) m.key) in
    let rest : Ascending file n (i + 1) left = ascending file n (i + 1) left (omega arith) m.more in
    let back : i + 1 - 1 ≡ i = omega arith in
    let over : AllAbove order (key_in file i) (parts_from file n (i + 1) left) =
    subst (λ (k : ℕ). AllAbove order (key_in file k) (parts_from file n (i + 1) left)) back
    (rest.above (omega arith) (subst (λ (k : ℕ). Good (fields_at file (key_place k))) (sym back) good)) in
    record {
      rising = (over, rest.rising);
      above = λ h g. (let less = rises_met file i h g good m.rises in (less, lower order order_lawful (key_in file (i - 1)) (key_in file i) (parts_from file n (i + 1) left) less over));
    }
