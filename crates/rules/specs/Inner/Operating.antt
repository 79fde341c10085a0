-- What is asked where an operation is computed from its inputs, before it is known how many outputs it has.
use Rattle.std.specs.Prelude.{ℕ, ◌<◌, true, List, ◌≡◌, length}
use Rattle.rules.specs.Lists.{◌∈◌}
use Rattle.rules.specs.Evaluation.{Operation, suits}

-- the number of inputs suits, with some number of outputs
abbrev pub Suited : Operation → ℕ → Type 0
Suited o ins = (outs : ℕ) × (suits o ins outs ≡ true)

-- every input stands at a place of the memory
abbrev pub Placed : (memory places : List ℕ) → Type 0
Placed memory places = (u : ℕ) → u ∈ places → u < length memory
