use Rattle.dk_state.specs.Spelling.{content_of}
use Rattle.dk_state.proofs.Histories.{content_text, history_meets}
use Rattle.dk_state.proofs.laws.state_files_are_spellings.Goals as goal

pub returns : goal.returns
returns c g ps implicit own can = record {
  content = content_of g ps implicit own;
  meets = history_meets g ps implicit own can;
  text = content_text g ps implicit own;
}
