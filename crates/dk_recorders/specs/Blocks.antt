-- Sample blocks of several recorders: what they come to, and what is asked of them so that their order doesn't matter.
use Rattle.std.specs.Prelude.{◌≡◌, ⊤, ℕ, ℤ, Bool, true, All, List, [], ◌∷◌, map, IsSome, option_map, Option, Some, None, Result, Ok}
use Rattle.std.specs.List.{AllPairs}
use Rattle.std.specs.Option.{option_map_or}
use Rattle.std.specs.Result.{result_ok}
use Rattle.dk_base.specs.Reading.{Line, LineFault, ◌>>=◌}
use Rattle.dk_lines.specs.Left.{Over}
use Rattle.dk_decl.specs.declared.header.Header.{Header}
use Rattle.dk_points.specs.Table.{Point}
use Rattle.dk_trace.specs.Records.{Sample, sample_of}
use Rattle.dk_calls.specs.Records.{call_of}
use Rattle.dk_calls.specs.Waiting.{Call, enters, exits, other}
use Rattle.dk_blocks.specs.Blocks.{Group, Groups, Last}
use Rattle.dk_blocks.specs.History.{History, effect_of}
use Rattle.dk_turns.specs.Blocks.{Block, block_behind, bytes_of, has_sample}

-- ---- blocks of lines
-- a block's lines, and the number of the line that ends it
pub record EndedBlock : Type 0 where
  pub lines : List Line
  pub close : ℕ

-- The history after blocks, one behind another, or the first fault. It takes whether exits without an entry are left out, and not refused.
abbrev pub after_blocks : Bool → History → List EndedBlock → Result History LineFault
after_blocks ignores h [] = Ok h
after_blocks ignores h (b ∷ bs) = effect_of ignores h b.lines (Some b.close) >>= λ t. after_blocks ignores t.history bs

-- groups of lines as blocks: a blank line ends each, or the file's end the last, which is none where the file was cut off
abbrev pub blocks_of_groups : Groups → List EndedBlock
blocks_of_groups (Group ls close rest) = record { lines = ls; close = close } ∷ blocks_of_groups rest
blocks_of_groups (Last ls (Over line)) = record { lines = ls; close = line } ∷ []
blocks_of_groups (Last ls end) = []

-- the header lines and the record of a block, where this header is in force: without the comments in front and without the lines' numbers
abbrev pub content_of : Header → EndedBlock → Block
content_of header b = block_behind header (bytes_of b.lines)

abbrev pub contents_of : Header → List EndedBlock → List Block
contents_of header bs = map (content_of header) bs

-- ---- records
-- a line whose number doesn't matter
abbrev pub unnumbered : List ℕ → Line
unnumbered bytes = record { number = 0; bytes = bytes }

-- the sample that the lines of a record give by the points of a table, if they aren't refused
abbrev pub sample_in : List Point → List (List ℕ) → Option Sample
sample_in ps [] = None
sample_in ps (line ∷ lines) = result_ok (sample_of ps (unnumbered line) (map unnumbered lines) (Some 0))

-- whether a sample block has an entry or an exit
abbrev pub call_in : List Point → Block → Call
call_in ps b = option_map_or (call_of ps) (sample_in ps b.body) other

-- ---- nonces
abbrev pub HasNonce : Call → Type 0
HasNonce (enters w) = IsSome w.nonce
HasNonce (exits point nonce) = IsSome nonce
HasNonce other = ⊤

-- the method of an entry or an exit, which goes by the place of its entry, with the record's nonce
abbrev pub method_and_nonce : Call → Option (ℕ × ℤ)
method_and_nonce (enters w) = option_map (λ n. (w.point, n)) w.nonce
method_and_nonce (exits point nonce) = option_map (λ n. (point, n)) nonce
method_and_nonce other = None

-- the two are not of one method with one nonce
abbrev pub ShareNoNonce : Call → Call → Type 0
ShareNoNonce a b = (key : ℕ × ℤ) → method_and_nonce a ≡ Some key → method_and_nonce b ≡ Some key → ⊥

-- ---- recorders
-- it has a sample record, in front of which no header line stands
pub record IsSampleAlone (b : Block) : Type 0 where
  pub sample : has_sample b ≡ true
  pub no_headers : b.headers ≡ []

-- The blocks of recorders, a list for each. By the points of a table each entry and exit has a nonce, and no two recorders share a nonce of
-- one method.
pub record AreOfRecorders (ps : List Point) (recorders : List (List Block)) : Type 0 where
  pub alone : All (λ blocks. All IsSampleAlone blocks) recorders
  pub nonces : All (λ blocks. All (λ b. HasNonce (call_in ps b)) blocks) recorders
  pub apart : AllPairs (λ blocks others. All (λ b. All (λ c. ShareNoNonce (call_in ps b) (call_in ps c)) others) blocks) recorders
