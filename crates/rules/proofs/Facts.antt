-- What is proved of the rules, by topic. Each file says in its first line what it holds.

-- Theorems a stranger may look for: docs/PROMISES.md says each in words
pub mod Convex
pub mod FoldDraw
pub mod Demand3
pub mod Fine
pub mod IncidenceTheorem
pub mod Orders
pub mod Determined
pub mod DeterminedFaces
pub mod ReadsFirst
pub mod NumberAgain
pub mod OutputLong
pub mod Worked
pub mod WorkedCalls
pub mod Traps
pub mod WorkedText
-- Lists: what stands in them, stores, parts, rows, tests
pub mod Bools
pub mod Member
pub mod Outside
pub mod Counts
pub mod Stores
pub mod Segments
pub mod SameLists
pub mod Parts
pub mod Rows
pub mod Tests
pub mod Injective
pub mod Left
-- Graphs: chains, paths, cycles, and tests that decide them
pub mod Chains
pub mod Routes
pub mod Pigeon
pub mod Reach
pub mod Half
pub mod FoldRel
pub mod FoldFits
pub mod Adjacent
pub mod Decide
-- Refusals: what is accepted, which number comes first, what is left in lent memory
pub mod Accepts
pub mod Naturality
pub mod Carried
pub mod ArrowInputs
pub mod Refusing
pub mod Verdicts
pub mod Rooms
-- Tables: converses and adjacencies, and how they come about in a workspace
pub mod Converse
pub mod ConverseTable
pub mod Placing
pub mod Tables
pub mod Flat
pub mod Sizes
pub mod RowsCalls
pub mod Incident
-- Kahn's walk, acyclic, layers
pub mod Kahn
pub mod Standing
pub mod WalkTells
pub mod Acyclic
pub mod Layers
pub mod LayerSort
pub mod LayerCalls
pub mod Lookup
pub mod LookupFace
-- Maps and convexity
pub mod Monomorphism
pub mod Search
pub mod Roads
pub mod ConvexDecides
-- Evaluation
pub mod Operating
pub mod Evaluating
pub mod Running
pub mod EvalCall
-- The text program
pub mod TextWords
pub mod TextSections
pub mod Writing
pub mod Output
