-- What is printed of each fault in the words.
use Rattle.std.specs.Prelude.{ℕ, List, codes}
use Rattle.tet_words.specs.declared.fault.WordFault.{WordFault}
use Rattle.tet_words.specs.declared.fault.WordFault.TheVariants as faults

abbrev pub fault_text : WordFault → List ℕ
fault_text faults.NoCommand = codes "no command"
fault_text faults.Command = codes "unknown command"
fault_text faults.Words = codes "bad words"
fault_text faults.Epsilon = codes "epsilon must be 1 to 4095"
fault_text faults.Cells = codes "cells must be 1, 2, 4, 8, 16 or 32"
fault_text faults.Budget = codes "budget must be 0 to 1000000"
fault_text faults.Digits = codes "digits must be 0 to 5"
fault_text faults.K = codes "K must be 1 to 64"
fault_text faults.Seed = codes "SEED must be 0 to 4294967295"
fault_text faults.Name = codes "bad name"
fault_text faults.SameName = codes "two names are equal"
