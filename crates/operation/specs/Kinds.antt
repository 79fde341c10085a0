-- What the code's operations and inputs stand for.
use Rattle.std.specs.Prelude.{◌<◌, Option, Some, None}
use Rattle.rules.specs.Evaluation.{copy, add, difference, smallest, largest, middle, choose, first_smallest, shift, constant, unknown}
use Rattle.rules.specs.Evaluation as table
use Rattle.operation.specs.declared.Operation.{Operation}
use Rattle.operation.specs.declared.Operation.TheVariants.{Copy, Add, Difference, Smallest, Largest, Middle, Choose, FirstSmallest, Shift, Constant}

-- the operation of the table that one of the code is
abbrev pub kind : Operation → table.Operation
kind Copy = copy
kind Add = add
kind Difference = difference
kind Smallest = smallest
kind Largest = largest
kind Middle = middle
kind Choose = choose
kind FirstSmallest = first_smallest
kind (Shift k) = shift k
kind (Constant k) = constant k

-- none is the unknown operation
abbrev pub kind_of : Option Operation → table.Operation
kind_of None = unknown
kind_of (Some o) = kind o

-- a shift is by less than a number's width
abbrev pub ShiftFits : Operation → Type 0
ShiftFits (Shift k) = k < 32
ShiftFits _ = Unit
