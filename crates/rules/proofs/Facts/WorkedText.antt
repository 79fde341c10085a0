-- The text's rules at work: each example is computed. Texts in document 01's format, what is read of them, and what the program writes.
use Rattle.std.specs.Prelude.{[], ◌∷◌, ◌≡◌, refl, Ok, Err, Some}
use Rattle.rules.specs.Chars.{bytes}
use Rattle.rules.specs.Lists.{any, all, those, all_below}
use Rattle.rules.specs.Drawing.{part}
use Rattle.rules.specs.Graph.{ends, longest_below, mark, order}
use Rattle.rules.specs.Analysis.{converse, op_next, layer_of}
use Rattle.rules.specs.Calls.{boundary_refusal}
use Rattle.rules.specs.Evaluation.{operation, place_of, store_all, run_layer, run, evaluated}
use Rattle.rules.specs.Text.{blanks, word, all_digits, worth, number_at, numbers_at, section_at, whole, broken, sections_at, whole_text}
use Rattle.rules.specs.declared.Refusal.TheVariants.{OverLimit, BadText}
use Rattle.rules.specs.Program.{spelled, decimal, lines, operation_lines, column, answer, output_of}

pub record WorkedText : Type 0 where
  -- What is read. Document 01's sample:
  pub sample-read :
      whole_text (bytes "6  0 0 0 0 0 0\n3  2 2 7\n3  2 2 2\n6  0 1 0 2 3 4\n3  1 1 1\n3  3 4 5\n3  0 1 2\n1  5\n3  100 90 130\n")
      ≡ whole ((0 ∷ 0 ∷ 0 ∷ 0 ∷ 0 ∷ 0 ∷ []) ∷ (2 ∷ 2 ∷ 7 ∷ []) ∷ (2 ∷ 2 ∷ 2 ∷ []) ∷ (0 ∷ 1 ∷ 0 ∷ 2 ∷ 3 ∷ 4 ∷ []) ∷ (1 ∷ 1 ∷ 1 ∷ []) ∷ (3 ∷ 4 ∷ 5 ∷ []) ∷ (0 ∷ 1 ∷ 2 ∷ []) ∷ (5 ∷ []) ∷ (100 ∷ 90 ∷ 130 ∷ []) ∷ [])
  -- a number ends at a separator or at the end
  pub letter : whole_text (bytes "300x") ≡ broken [] [] BadText
  -- one to ten digits, at most 4294967295
  pub large : number_at (bytes "4294967296 ") 0 ≡ Err BadText
  pub largest : number_at (bytes " \t4294967295") 0 ≡ Ok (Some (4294967295, 12))
  pub ten : number_at (bytes "0000000257") 0 ≡ Ok (Some (257, 10))
  pub eleven : number_at (bytes "00000000001") 0 ≡ Err BadText
  pub ten_count : whole_text (bytes "0000000257") ≡ broken [] [] OverLimit
  -- all four separators, which may also stand first; a vertical tab is none
  pub separators : number_at (32 ∷ 9 ∷ 10 ∷ 13 ∷ 55 ∷ 13 ∷ []) 0 ≡ Ok (Some (7, 5))
  pub other : number_at (11 ∷ 49 ∷ []) 0 ≡ Err BadText
  -- a count over its limit stands left of what is missing
  pub cut : whole_text (bytes "1 7 257 ,,,") ≡ broken ((7 ∷ []) ∷ []) [] OverLimit
  -- 256 numbers and 1,024 values are counted, one more is not
  pub most : whole_text (bytes "256 ,") ≡ broken [] [] BadText
  pub most_values : whole_text (bytes "0 0 0 1024 ,") ≡ broken ([] ∷ [] ∷ [] ∷ []) [] BadText
  pub over_values : whole_text (bytes "0 0 0 1025 ,") ≡ broken ([] ∷ [] ∷ [] ∷ []) [] OverLimit
  -- numbers that are missing
  pub few : whole_text (bytes "2 7 ") ≡ broken [] (7 ∷ []) BadText
  pub empty : whole_text [] ≡ broken [] [] BadText
  pub blank : whole_text (bytes " \r\n") ≡ broken [] [] BadText
  -- only separators may follow
  pub follows : whole_text (bytes "0 0 0 0 0 0 0 0 0 0") ≡ broken ([] ∷ [] ∷ [] ∷ [] ∷ [] ∷ [] ∷ [] ∷ [] ∷ [] ∷ []) [] BadText
  pub only_blanks : whole_text (bytes "0 0 0 0 0 0 0 0 0\n\t ") ≡ whole ([] ∷ [] ∷ [] ∷ [] ∷ [] ∷ [] ∷ [] ∷ [] ∷ [] ∷ [])
  -- What is written.
  pub smallest : decimal 0 ≡ bytes "0"
  pub longest : decimal 4294967295 ≡ bytes "4294967295"
  -- document 01's sample
  pub sample :
      output_of (bytes "6  0 0 0 0 0 0\n3  2 2 7\n3  2 2 2\n6  0 1 0 2 3 4\n3  1 1 1\n3  3 4 5\n3  0 1 2\n1  5\n3  100 90 130\n")
      ≡ bytes "operations 3 unplaced 0\n0 0 0\n1 0 0\n2 1 0\nvalues 1\n0\n"
  -- the empty drawing
  pub none : output_of (bytes "0 0 0 0 0 0 0 0 0") ≡ bytes "operations 0 unplaced 0\nvalues 0\n"
  -- 15: a letter for a number; 1: a count
  pub bad : output_of (bytes "1 x") ≡ bytes "refused 15\n"
  pub over : output_of (bytes "257 0") ≡ bytes "refused 1\n"
  -- 2: two operations, one source length; 3: node 1 of 1; 12: an output that is no node
  pub lengths : output_of (bytes "1 0  2 1 1  1 0  0  2 0 0  0  0  0  0") ≡ bytes "refused 2\n"
  pub value : output_of (bytes "1 0  1 0  1 1  1 1  1 0  0  0  0  0") ≡ bytes "refused 3\n"
  pub boundary : output_of (bytes "1 0  0  0  0  0  0  0  1 1  0") ≡ bytes "refused 12\n"
  -- 13: an operation from a node to itself; the lines come first
  pub unplaced : output_of (bytes "1 0  1 0  1 1  1 0  1 1  1 0  0  1 0  0") ≡ bytes "operations 1 unplaced 1\n0 0 1\nrefused 13\n"
  -- 14: label 8 is unknown
  pub unknown : output_of (bytes "2 0 0  1 8  1 1  1 0  1 1  1 1  0  1 1  0") ≡ bytes "operations 1 unplaced 0\n0 0 0\nrefused 14\n"
  -- a text's own faults come before those of the drawing in it: an operation without lengths, and a number too many
  pub race : output_of (bytes "0  1 0  0  0  0  0  0  0  0  0") ≡ bytes "refused 15\n"

pub worked_text : WorkedText
unfolding number_at blanks word all_digits worth numbers_at section_at sections_at spelled decimal lines operation_lines column answer output_of boundary_refusal part converse op_next any all those all_below ends longest_below mark order layer_of operation place_of store_all run_layer run evaluated
worked_text =
    record {
      sample-read = refl;
      letter = refl;
      large = refl;
      largest = refl;
      ten = refl;
      eleven = refl;
      ten_count = refl;
      separators = refl;
      other = refl;
      cut = refl;
      most = refl;
      most_values = refl;
      over_values = refl;
      few = refl;
      empty = refl;
      blank = refl;
      follows = refl;
      only_blanks = refl;
      smallest = refl;
      longest = refl;
      sample = refl;
      none = refl;
      bad = refl;
      over = refl;
      lengths = refl;
      value = refl;
      boundary = refl;
      unplaced = refl;
      unknown = refl;
      race = refl;
    }
