-- The questions of the bottom, component by component.
use Rattle.std.proofs.Common.{◌≡◌, ℕ, suc, ◌≤◌, cond, List, [], ◌∷◌, ◌++◌, map, length, Some, None, Option, Ordering, Less, Equal, Greater, sym, refl, ap, ◌∙◌, subst, inl, inr, arith}
use Rattle.std.proofs.lemmas.List.{length-map}
use Rattle.std.specs.List.{find}
use Rattle.std.specs.Option.{option_map}
use Rattle.std.specs.Ordering.{is_eq}
use Rattle.model.specs.declared.part.Part.{Part}
use Rattle.model.specs.Orders.{if_same}
use Rattle.model.specs.Parts.{lookup, above}
use Rattle.model.specs.Gathered.{over_only, nearer}
use Rattle.model.proofs.Lists.{if_same_other, put_grows}
use Rattle.model.proofs.Gathers.{gathered_told, gathered_above, nearer_assoc, nearer_none}
use Rattle.parts.specs.declared.key.Key.{Key}
use Rattle.parts.specs.declared.details.Details.{Details}
use Rattle.parts.specs.Keys.{order}
use Rattle.parts.proofs.Lawful.{order_lawful}
use Rattle.component.specs.Syntax.{Component, most}
use Rattle.reader.specs.declared.kind.Kind.{Kind}
use Rattle.reader.specs.Leaves.{Sized}
use Rattle.reader.specs.Syntax.{Each, Among, Absent, Apart}
use Rattle.certificate.specs.declared.line.Line.{Line}
use Rattle.certificate.specs.declared.places.Places.{Places}
use Rattle.certificate.specs.Profile.{line_of, Reading}
use Rattle.certificate.specs.Readings.{reading_at, Reads}
use Rattle.certificate.specs.Bottoms.{part_of, parts_of}

module _ (key : Key) where
  -- one component in front, by how its key compares
  found_step : (o : Ordering) (l : Line) (rest : Option Line) (d : Option Details) → option_map (λ (z : Line). z.details) rest ≡ d → option_map (λ (z : Line). z.details) (cond (is_eq o) (Some l) rest) ≡ if_same o (Some l.details) d
  found_step Less l rest d e = e
  found_step Equal l rest d e = refl
  found_step Greater l rest d e = e

  -- the first component with the key is the part with the key
  pub found_first : (ls : List Line) → option_map (λ (z : Line). z.details) (find (λ (z : Line). is_eq (order key z.key)) ls) ≡ lookup order key (parts_of ls)
  found_first [] = refl
  found_first (l ∷ ls) = found_step (order key l.key) l _ _ (found_first ls) ∙ sym (gathered_told order order_lawful key (part_of l) (map part_of ls))

module _ (k : Option Key) where
  -- the answer to next, of the components that are left and the best so far
  abbrev pub nearest_in : Option (Part Key Details) → List Line → Option (Part Key Details)
  nearest_in best ls = nearer order best (above order k (parts_of ls))

  pub nearest_more : (best : Option (Part Key Details)) (l : Line) (ls : List Line) → nearest_in (nearer order best (over_only order k (part_of l))) ls ≡ nearest_in best (l ∷ ls)
  nearest_more best l ls =
      nearer_assoc order order_lawful best (over_only order k (part_of l)) (above order k (parts_of ls))
      ∙ ap (nearer order best) (sym (gathered_above order order_lawful k (part_of l) (map part_of ls)))

pub nearest_done : (k : Option Key) (best : Option (Part Key Details)) → nearest_in k best [] ≡ best
nearest_done None best = nearer_none order order_lawful best
nearest_done (Some k) best = nearer_none order order_lawful best

-- ---- how many parts there are

-- an entry that has a label, among more
among_left : {X : Type 0} (P : X → Type 0) (xs ys : List X) → Among P xs → Among P (xs ++ ys)
among_left P [] ys a = absurd a
among_left P (x ∷ xs) ys (inl h) = inl h
among_left P (x ∷ xs) ys (inr h) = inr (among_left P xs ys h)

among_last : {X : Type 0} (P : X → Type 0) (xs : List X) (x : X) → P x → Among P (xs ++ x ∷ [])
among_last P [] x h = inl h
among_last P (y ∷ xs) x h = inr (among_last P xs x h)

module _ {X L : Type 0} (label : X → L) where
  absent_not : (l m : L) (xs : List X) → Among (λ (x : X). label x ≡ l) xs → Absent label m xs → l ≡ m → ⊥
  absent_not l m [] a b e = a
  absent_not l m (x ∷ xs) (inl h) b e = b.0 (sym e ∙ sym h)
  absent_not l m (x ∷ xs) (inr h) b e = absent_not l m xs h b.1 e

  -- a label that stands before stands nowhere behind
  later : (l : L) (before xs : List X) → Among (λ (x : X). label x ≡ l) before → Apart label before xs → Each (λ (y : X). l ≡ label y → ⊥) xs
  later l before [] a h = tt
  later l before (y ∷ xs) a h = (absent_not l (label y) before a h.0, later l (before ++ y ∷ []) xs (among_left (λ (x : X). label x ≡ l) before (y ∷ []) a) h.1)

abbrev component_part : Component → Part Key Details
component_part c = part_of (line_of c)

not_there : (k : Key) (cs : List Component) → Each (λ (c : Component). k ≡ c.key → ⊥) cs → lookup order k (parts_of (map line_of cs)) ≡ None
not_there k [] e = refl
not_there k (c ∷ cs) e =
    gathered_told order order_lawful k (component_part c) (map part_of (map line_of cs))
    ∙ (if_same_other (order k c.key) (Some c.details) _ (λ h. e.0 (order_lawful.only k c.key h)) ∙ not_there k cs e.1)

all_there : (before cs : List Component) → Apart (λ (c : Component). c.key) before cs → length (parts_of (map line_of cs)) ≡ length cs
all_there before [] h = refl
all_there before (c ∷ cs) h =
    let key : Component → Key = λ c. c.key in
    let others = later key c.key (before ++ c ∷ []) cs (among_last (λ (x : Component). x.key ≡ c.key) before c refl) h.1 in
    put_grows order order_lawful c.key c.details (parts_of (map line_of cs)) (not_there c.key cs others) ∙ ap suc (all_there (before ++ c ∷ []) cs h.1)

map_length : (cs : List Component) → length (map line_of cs) ≡ length cs
map_length cs = length-map cs line_of

module _ (kind : Kind) (file : List ℕ) (p : Places) (r : Reads kind file p) where
  components_are : (reading_at kind file p).components ≡ map line_of r.certificate.configuration.components
  components_are = ap (λ (z : Reading). z.components) r.stands

  parts_length : length (parts_of (reading_at kind file p).components) ≡ length r.certificate.configuration.components
  parts_length = ap (λ (ls : List Line). length (parts_of ls)) components_are ∙ all_there [] r.certificate.configuration.components r.profile.configuration.apart

  pub parts_counted : p.components.count ≡ length (parts_of (reading_at kind file p).components)
  parts_counted = r.counted ∙ (ap length components_are ∙ (map_length r.certificate.configuration.components ∙ sym parts_length))

  pub parts_few : length (parts_of (reading_at kind file p).components) ≤ most kind
  parts_few = let few = r.profile.configuration.few in let same = parts_length in omega arith

  -- ---- the head

  pub issuer_sized : Sized 1 128 (reading_at kind file p).issuer
  issuer_sized = subst (λ (z : Reading). Sized 1 128 z.issuer) (sym r.stands) r.profile.envelope.signed.issuer

  pub serial_sized : Sized 1 20 (reading_at kind file p).serial
  serial_sized = subst (λ (z : Reading). Sized 1 20 z.serial) (sym r.stands) (record { long = (let s = r.profile.envelope.signed.serial.integer.some in omega arith); short = r.profile.envelope.signed.serial.few })
