-- The C face of a call: a refusal is document 01's number, and 0 is none; a yes or no, or a size, is one word more that is lent.
-- The lent lists are those of the call itself, so a face promises what its call promises.
use Rattle.std.specs.Prelude.{ℕ, Bool, ◌&&◌, cond, List, ◌≡◌, length, ltb}
use Rattle.rules.specs.Lists.{at, seg}
use Rattle.rules.specs.Analysis.{sound, layer_part}
use Rattle.rules.specs.Promises.{OffsetsSound}
use Rattle.rules.specs.Refusals.{refusal_of}
use Rattle.std.specs.Prelude.{Result, Ok, Err}
use Rattle.rules.specs.declared.Refusal.{Refusal}

-- of a call that checks or writes, and promises P of its answer: r is the number returned
pub record DoneFace (P : Result Unit Refusal → Type 0) (r : ℕ) : Type 0 where
  pub answer : Result Unit Refusal
  pub promise : P answer
  pub number : r ≡ refusal_of answer

-- of a call that decides: 1 for yes, 0 for no, the word as it was where the call is refused
abbrev pub verdict_word : Result Bool Refusal → ℕ → ℕ
verdict_word (Ok decided) word = cond decided 1 0
verdict_word (Err why) word = word

pub record VerdictFace (P : Result Bool Refusal → Type 0) (word word' r : ℕ) : Type 0 where
  pub answer : Result Bool Refusal
  pub promise : P answer
  pub number : r ≡ refusal_of answer
  pub told : word' ≡ verdict_word answer word

-- of a call that says how much room is needed
abbrev pub size_word : Result ℕ Refusal → ℕ → ℕ
size_word (Ok k) word = k
size_word (Err why) word = word

pub record SizeFace (P : Result ℕ Refusal → Type 0) (word word' r : ℕ) : Type 0 where
  pub answer : Result ℕ Refusal
  pub promise : P answer
  pub number : r ≡ refusal_of answer
  pub told : word' ≡ size_word answer word

-- what is told of a verdict alone
pub record Told (answer : Result Bool Refusal) (word word' r : ℕ) : Type 0 where
  pub number : r ≡ refusal_of answer
  pub told : word' ≡ verdict_word answer word

-- what is told of a size alone
pub record Measured (answer : Result ℕ Refusal) (word word' r : ℕ) : Type 0 where
  pub number : r ≡ refusal_of answer
  pub told : word' ≡ size_word answer word

-- of the offset test: 1 for sound, 0 for not; it never refuses
pub record SoundFace (ops offsets : List ℕ) (word' r : ℕ) : Type 0 where
  pub answer : Bool
  pub promise : OffsetsSound ops offsets answer
  pub number : r ≡ 0
  pub told : word' ≡ cond answer 1 0

-- of the layer lookup: where the part starts and how long it is, 0 and 0 for the empty part of an unknown layer or bad offsets
abbrev pub layer_start : (ops offsets : List ℕ) (i : ℕ) → ℕ
layer_start ops offsets i = cond (sound ops offsets && ltb i (length ops)) (at offsets i) 0

pub record LayerAtFace (ops offsets : List ℕ) (i start' count' r : ℕ) : Type 0 where
  pub number : r ≡ 0
  pub start : start' ≡ layer_start ops offsets i
  pub part : seg start' count' ops ≡ layer_part ops offsets i
  pub long : count' ≡ length (layer_part ops offsets i)
