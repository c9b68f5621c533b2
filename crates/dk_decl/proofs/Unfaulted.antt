-- A block that is still read has no fault.
use Rattle.std.proofs.Common.{[], Bool, Option, Some, None, IsOk, refl}
use Rattle.dk_decl.specs.Blocks.{decl_resumed, resumed_in}
use Rattle.dk_decl.specs.DeclareBlock.{declare_lines, declare_resumed}
use Rattle.dk_decl.specs.OpenBlocks.{NoFaultYet}
use Rattle.dk_decl.specs.PptBlock.{ppt_at, ppt_resumed, with_var}
use Rattle.dk_decl.specs.declared.block.BlockForm.{BlockForm}
use Rattle.dk_decl.specs.declared.block.BlockForm.TheVariants.{Ppt, Declare}
use Rattle.dk_decl.specs.declared.declare.DeclareBlock.TheVariants.{Begun, Going}
use Rattle.dk_decl.specs.declared.declare.NextLine.TheVariants.{AtName, AtType, AtRepresentation, AtComparability}
use Rattle.dk_decl.specs.declared.ppt.PptBlock.{PptBlock}
use Rattle.dk_decl.specs.declared.variables.OpenVar.{OpenVar}

in_ppt : (implicit : Bool) (b : PptBlock) (current : Option OpenVar) → IsOk (ppt_at implicit b current [] None)
unfolding with_var
in_ppt implicit b None = refl
in_ppt implicit b (Some o) = refl

in_form : (implicit : Bool) (form : BlockForm) → IsOk (resumed_in implicit form [] None)
unfolding ppt_resumed declare_resumed declare_lines
in_form implicit (Ppt b) = in_ppt implicit b b.current
in_form implicit (Declare (Begun line)) = refl
in_form implicit (Declare (Going name vs AtName)) = refl
in_form implicit (Declare (Going name vs (AtType line own))) = refl
in_form implicit (Declare (Going name vs (AtRepresentation line own))) = refl
in_form implicit (Declare (Going name vs (AtComparability line own r))) = refl

pub no_fault_yet : NoFaultYet
unfolding decl_resumed
no_fault_yet b = in_form b.implicit b.form
