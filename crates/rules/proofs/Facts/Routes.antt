-- Paths are put together.
use Rattle.std.specs.Prelude.{ℕ, ◌≡◌, refl}
use mathlib.Core.List.Memᴰ
use Rattle.rules.specs.Graph.{Route, one, more, first, links}
use Rattle.rules.specs.Lists.{◌∈◌}

pub join : {St : ℕ → ℕ → ℕ → Type 0} {u v w : ℕ} → Route St u v → Route St v w → Route St u w
join (one s) r = more s r
join (more s t) r = more s (join t r)

pub join_first : {St : ℕ → ℕ → ℕ → Type 0} {u v w : ℕ} (t : Route St u v) (r : Route St v w) → first (join t r) ≡ first t
unfolding join
join_first (one s) r = refl
join_first (more s t) r = refl

pub first-∈ : {St : ℕ → ℕ → ℕ → Type 0} {u v : ℕ} (r : Route St u v) → first r ∈ links r
first-∈ (one s) = Memᴰ.head refl
first-∈ (more s r) = Memᴰ.head refl
