-- The sample history happens.
use Rattle.std.proofs.Common.{◌≡◌, ℕ, ◌⊎◌, [], ◌∷◌, Some, None, Ok, Err, sym, ap, ◌∙◌, refl, inl, inr, arith}
use Rattle.std.specs.Cmp.{nat_cmp_total, unsigned_tied, unsigned_Decides}
use Rattle.model.specs.Orders.{Lawful}
use Rattle.model.specs.Layers.{Layer, AllMet, staging_demands, keeping, with_booked}
use Rattle.model.specs.Histories.{Run}
use Rattle.model.specs.Histories.Event.{laid, staged, booked}
use Rattle.model.specs.Histories.Run.{made, called}
use Rattle.model.specs.Sample.{delivered, exchange, older, not_head, Happens}
use Rattle.model.proofs.Layering.{removed≢added}
use Rattle.std.specs.Ordering.{is_eq, nat_cmp}

numbers_lawful : Lawful nat_cmp
numbers_lawful = record {
  turned = λ a b. nat_cmp_total.antisymm b a;
  only = λ a b e. (unsigned_Decides a b).0 (sym (unsigned_tied a b) ∙ ap is_eq e);
  trans = nat_cmp_total.trans;
}

abbrev layer : Layer ℕ ℕ ℕ
layer = record { number = 7; base = delivered; remembered = []; head = 1; aside = None }

apart : (◌≡◌ {A = ℕ} 3 2) ⊎ ⊥ → ⊥
apart (inl e) = omega arith
apart (inr x) = x

met : AllMet (staging_demands nat_cmp layer exchange)
met = (
  refl,
  (
    refl,
    (
      λ x. x,
      (
        λ e. absurd (removed≢added e),
        (
          λ n. tt,
          (
            apart,
            (
              λ e. refl,
              (
                λ n. absurd (n refl),
                (omega arith, (omega arith, tt)),
              ),
            ),
          ),
        ),
      ),
    ),
  ),
)

other_head : (◌≡◌ {A = ℕ} 1 9) → ⊥
other_head e = omega arith

pub happens : Happens
happens =
    let laying : Run nat_cmp delivered (laid 7 ∷ []) (layer ∷ []) = called made (tt, (layer, refl, refl)) in
    let staging : Run nat_cmp delivered (staged exchange (Ok 7) ∷ laid 7 ∷ []) (keeping layer (Some exchange) ∷ []) = called laying (_, (met, refl, refl), refl) in
    let booking : Run nat_cmp delivered (booked 7 (Ok tt) ∷ staged exchange (Ok 7) ∷ laid 7 ∷ []) (with_booked nat_cmp layer exchange ∷ []) = called staging (_, (refl, (exchange, refl, refl)), refl) in
    let refusing : Run nat_cmp delivered (staged older (Err not_head) ∷ booked 7 (Ok tt) ∷ staged exchange (Ok 7) ∷ laid 7 ∷ []) (with_booked nat_cmp layer exchange ∷ []) = called booking (_, (inr (refl, inl (other_head, refl)), refl), refl) in
    record {
      lawful = numbers_lawful;
      bottom = record { rising = ((refl, tt), (tt, tt)); few = omega arith };
      pile = with_booked nat_cmp layer exchange ∷ [];
      run = called (called (called (called refusing (refl, refl)) (refl, refl)) (refl, refl)) (refl, refl);
    }
