-- What is found of blocks.
use Rattle.std.specs.Prelude.{◌<◌, ℕ, ⊤, List, length, Option, Some, None, Result, Ok}
use Rattle.dk_base.specs.Reading.{LineFault}
use Rattle.dk_base.specs.Values.{values_of}
use Rattle.dk_derive.specs.Laws.{var_kinds}
use Rattle.dk_points.specs.Table.{Point}
use Rattle.dk_points.specs.Vars.{vars_of}
use Rattle.dk_trace.specs.Fitting.{FitKinds}
use Rattle.dk_blocks.specs.Fitting.{HasFittingConstants}
use Rattle.dk_blocks.specs.History.{History, Samples, Taken, block, block_by, no_block, with_declaration}
use Rattle.dk_blocks.specs.declared.found.Found.{Found}
use Rattle.dk_blocks.specs.declared.found.Found.TheVariants.{Nothing, Declaration, Sample}

-- What a block comes to, by what was found of it, and the history so far: a sample and what else records do are in it already, and what a
-- declaration does is still to be done.
abbrev pub outcome_of : History → Option Found → Result Taken LineFault
outcome_of h None = Ok (no_block h)
outcome_of h (Some Nothing) = Ok (block h)
outcome_of h (Some (Declaration line decl)) = with_declaration h line decl
outcome_of h (Some (Sample point line values)) = Ok (block_by (Samples point.0 line (values_of values.now)) h)

-- A sample is of a point of the table, and has values of its base variables. The constants of a declaration are values of its variables.
abbrev pub FoundFits : List Point → Option Found → Type 0
FoundFits ps None = ⊤
FoundFits ps (Some Nothing) = ⊤
FoundFits ps (Some (Declaration line decl)) = HasFittingConstants decl
FoundFits ps (Some (Sample point line values)) = (point.0 < length ps) × FitKinds (var_kinds (vars_of ps point.0)) (values_of values.now)
