-- Orders of keys.
use Rattle.std.specs.Prelude.{◌≡◌}
use Rattle.std.specs.declared.cmp.Ordering.TheVariants.{Less, Equal, Greater}
use Rattle.std.specs.declared.cmp.Ordering.{Ordering}
use Rattle.std.specs.Ordering.{ordering_reverse}

-- a lawful order: any two keys compare; turned round, the opposite; only the same key is equal; transitive
pub record Lawful {K : Type 0} (cmp : K → K → Ordering) : Type 0 where
  pub turned : (a b : K) → cmp b a ≡ ordering_reverse (cmp a b)
  pub only : (a b : K) → cmp a b ≡ Equal → a ≡ b
  pub trans : (a b c : K) → cmp a b ≡ Less → cmp b c ≡ Less → cmp a c ≡ Less

-- the first where less, the second where equal, the third where greater
abbrev pub by : {A : Type 0} → Ordering → A → A → A → A
by Less l e g = l
by Equal l e g = e
by Greater l e g = g

-- e where the two are the same, else d
abbrev pub if_same : {A : Type 0} → Ordering → A → A → A
if_same o e d = by o d e d
