-- What the functions of the reader answer, and what the lent lists then hold. No promise cites this file.
use Rattle.std.specs.Prelude.{ℕ, ◌≡◌, cond, List, [], ◌∷◌, ◌++◌, Result, Ok, Err, Some, None, length, take, drop}
use Rattle.std.proofs.lemmas.List.Edits.{sets}
use Rattle.rules.specs.Lists.{concat}
use Rattle.rules.specs.Text.{is_number, worth, Number, Numbers, all_read, fault, Sections, whole, broken}
use Rattle.rules.specs.declared.Refusal.{Refusal}
use Rattle.rules.specs.declared.Refusal.TheVariants.{BadText}

-- the numbers of all nine sections together, at most
abbrev pub most_numbers : ℕ
most_numbers = 3840

-- a word as a number
abbrev pub value_of : List ℕ → Result ℕ Refusal
value_of w = cond (is_number w) (Ok (worth 0 w)) (Err BadText)

-- a number that must stand there, and the place behind it
abbrev pub next_of : Number → Result (ℕ × ℕ) Refusal
next_of (Ok (Some v)) = Ok v
next_of (Ok None) = Err BadText
next_of (Err why) = Err why

-- the numbers that were read, which are stored from the front of the lent list
abbrev pub kept : Numbers → List ℕ
kept (all_read ns end) = ns
kept (fault ns why) = ns

abbrev pub Stored : Numbers → List ℕ → List ℕ → Type 0
Stored g out out' = out' ≡ sets out 0 (kept g)

-- the place behind the numbers, and with it how many they are
abbrev pub end_of : Numbers → Result ℕ Refusal
end_of (all_read ns end) = Ok end
end_of (fault ns why) = Err why

abbrev pub section_answer : Numbers → Result (ℕ × ℕ) Refusal
section_answer (all_read ns end) = Ok (length ns, end)
section_answer (fault ns why) = Err why

-- One section was read: the answer, and what the lent list then holds.
pub record ReadNumbers (g : Numbers) (out out' : List ℕ) (r : Result (ℕ × ℕ) Refusal) : Type 0 where
  pub answer : r ≡ section_answer g
  pub stored : Stored g out out'

abbrev pub lengths : List (List ℕ) → List ℕ
lengths [] = []
lengths (ns ∷ ls) = length ns ∷ lengths ls

-- the sections that were read to their end, and all numbers that were read
abbrev pub finished : Sections → List (List ℕ)
finished (whole ls) = ls
finished (broken ls ms why) = ls

abbrev pub numbers_of : Sections → List ℕ
numbers_of (whole ls) = concat ls
numbers_of (broken ls ms why) = concat ls ++ ms

abbrev pub text_answer : Sections → Result (Unit {0}) Refusal
text_answer (whole ls) = Ok tt
text_answer (broken ls ms why) = Err why

-- A whole text was read: the answer, how many numbers each finished section has, and the numbers, section behind section.
pub record ReadText (s : Sections) (counts counts' numbers numbers' : List ℕ) (r : Result (Unit {0}) Refusal) : Type 0 where
  pub answer : r ≡ text_answer s
  pub counted : counts' ≡ sets counts 0 (lengths (finished s))
  pub stored : numbers' ≡ sets numbers 0 (numbers_of s)

-- numbers that stand section behind section, taken apart by their counts
unfoldable pub sections_of : List ℕ → List ℕ → List (List ℕ)
sections_of [] ns = []
sections_of (c ∷ cs) ns = take c ns ∷ sections_of cs (drop c ns)
