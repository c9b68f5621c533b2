-- What calls answer, but for memory.
use Rattle.std.specs.Prelude.{◌≡◌, ⊤, Result, Ok, Err}
use Rattle.dk_table.specs.declared.faults.Refusal.{Refusal}
use Rattle.dk_table.specs.declared.faults.TableFault.{TableFault}
use Rattle.dk_table.specs.declared.faults.TableFault.TheVariants.{NoMemory, Refused}

-- the call answers what is defined, or is refused as defined, or is out of memory
abbrev pub Answers : {A B : Type 0} → (A → B) → Result B Refusal → Result A TableFault → Type 0
Answers shown defined (Ok x) = defined ≡ Ok (shown x)
Answers shown defined (Err (Refused refusal)) = defined ≡ Err refusal
Answers shown defined (Err NoMemory) = ⊤
