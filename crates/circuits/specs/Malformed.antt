-- What an evaluation answers, as numbers: "It returns number, place and value ..., and a refusal has value 0."
use Rattle.std.specs.Prelude.{ℕ, Bool, Result, Ok, Err}
use Rattle.records.specs.Bits.{digit}
use Rattle.circuits.specs.declared.evaluation.Evaluated.{Evaluated}
use Rattle.circuits.specs.declared.refusals.GateFault.{GateFault}
use Rattle.circuits.specs.declared.refusals.GateFault.TheVariants.{Form, InputNotEarlier}
use Rattle.circuits.specs.declared.refusals.Malformed.{Malformed}
use Rattle.circuits.specs.declared.refusals.Malformed.TheVariants.{LengthOfAssignment, LengthOfGates, AtGate, RootNotThere}

-- "22: byte 0 not 1 or 2, or byte 1, 6 or 7 not zero; 23: an input of gate k is 514 + k or above."
abbrev pub fault_number : GateFault → ℕ
fault_number Form = 22
fault_number InputNotEarlier = 23

-- "20: assignment not of 32 bytes. 21: gate table not a multiple of 8 bytes, or above 24,576." "Last, 24: root reference is 514 + gates or above."
abbrev pub malformed_number : Malformed → ℕ
malformed_number LengthOfAssignment = 20
malformed_number LengthOfGates = 21
malformed_number (AtGate fault k) = fault_number fault
malformed_number RootNotThere = 24

-- "The place of 22 and 23 is the gate, else 0."
abbrev pub malformed_place : Malformed → ℕ
malformed_place LengthOfAssignment = 0
malformed_place LengthOfGates = 0
malformed_place (AtGate fault k) = k
malformed_place RootNotThere = 0

-- "Accepted: 0, 0, and the root's value, 0 or 1."
abbrev pub evaluated_of : Result Bool Malformed → Evaluated
evaluated_of (Ok x) = record { number = 0; place = 0; value = digit x }
evaluated_of (Err m) = record { number = malformed_number m; place = malformed_place m; value = 0 }
