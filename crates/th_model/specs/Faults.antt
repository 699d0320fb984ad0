-- Why bytes are no value.
use Rattle.std.specs.Prelude.{◌≡◌, ℕ, List, true, false}
use Rattle.th_model.specs.Names.{is_value}
use Rattle.th_model.specs.declared.value.ValueFault.{ValueFault}
use Rattle.th_model.specs.declared.value.ValueFault.TheVariants.{Bad, Short}

-- the fault comes of these bytes: bad ones are no value, and memory is asked for by a value alone
abbrev pub IsFaultOf : List ℕ → ValueFault → Type 0
IsFaultOf bytes Bad = is_value bytes ≡ false
IsFaultOf bytes Short = is_value bytes ≡ true
