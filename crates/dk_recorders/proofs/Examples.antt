-- Small files of recorders, byte by byte.
use Rattle.std.proofs.Common.{◌≡◌, ◌∷◌, [], ◌++◌, ◌∙◌, ℕ, zero, suc, ℤ, pos, false, All, AllPairs, List, None, Option, Some, ap, arith, codes, map, nat_abs, option_map, refl, subst, sym}
use Rattle.std.proofs.lemmas.List.Elements.{All-cons, All-nil}
use Rattle.std.specs.Result.{result_ok}
use Rattle.dk_base.specs.Names.{unescaped}
use Rattle.dk_base.specs.Numbers.{integer_of, whole_of}
use Rattle.dk_graph.specs.Graphs.{depth_of, edges, has_cycle, links}
use Rattle.dk_graph.specs.Names.{place_of}
use Rattle.dk_lines.specs.Left.{lined, without_cr}
use Rattle.dk_decl.specs.Blocks.{block_decl}
use Rattle.dk_decl.specs.Comments.{is_comment}
use Rattle.dk_decl.specs.DeclareBlock.{declare_lines}
use Rattle.dk_decl.specs.Headers.{header_line}
use Rattle.dk_decl.specs.LineWords.{begins, operand}
use Rattle.dk_decl.specs.PptBlock.{point_name, ppt_lines, ppt_of}
use Rattle.dk_points.specs.Declaring.{declared, has_many_vars}
use Rattle.dk_points.specs.Links.{kept_edges, nodes}
use Rattle.dk_points.specs.Names.{method_len, role_of}
use Rattle.dk_points.specs.Sameness.{same_decl}
use Rattle.dk_points.specs.Table.{Point, declared_point, implicit_exit, names}
use Rattle.dk_points.specs.Vars.{entry_before, entry_of, orig_vars, vars_of}
use Rattle.dk_trace.specs.Bodies.{body_of, is_nonce_line, nonce_of}
use Rattle.dk_trace.specs.Records.{point_named_by, sample_of, var_decls_at}
use Rattle.dk_calls.specs.Records.{call_of, is_entry_at}
use Rattle.dk_calls.specs.Waiting.{Call, enters, exits}
use Rattle.dk_blocks.specs.History.{History, effect_of, is_declaration, is_list_of_implementors, no_history}
use Rattle.dk_turns.specs.Blocks.{Block, sample_blocks}
use Rattle.dk_turns.specs.Turns.{turns_of}
use Rattle.dk_recorders.specs.Blocks.{AreOfRecorders, HasNonce, IsSampleAlone, ShareNoNonce, call_in, method_and_nonce}
use Rattle.dk_recorders.specs.Recorders.{AreRecorders, HasNoLastCr, text_by_file, text_in_order}
use Rattle.dk_recorders.proofs.Ordered.{read_text}

-- ---- a CR in front of blanks
-- In these two files stand sample blocks of points of a strange name. Written without the blank behind the CR, each declares a point.
abbrev one : List ℕ
one = codes "DECLARE\r \nA\n\nDECLARE\r \nB\n"

abbrev other : List ℕ
other = codes "DECLARE\r \nC\n"

by_file : text_by_file (one ∷ other ∷ []) ≡ codes "DECLARE\r\nA\n\nDECLARE\r\nB\n\nDECLARE\r\nC\n"
unfolding text_in_order header_line begins is_comment is_declaration is_list_of_implementors
by_file = refl

in_turns : turns_of 1 (one ∷ other ∷ []) ≡ codes "DECLARE\r\nA\n\nDECLARE\r\nC\n\nDECLARE\r\nB\n"
unfolding turns_of header_line begins is_comment is_declaration is_list_of_implementors
in_turns = refl

-- the names of a text's points, in their order
abbrev names_in : List ℕ → Option (List (List ℕ))
names_in text = option_map (λ (h : History). names h.table) (result_ok (read_text false 100 100 no_history text))

-- So the order of the records is that of the points, and a law without this premise would not hold.
points_by_file : names_in (codes "DECLARE\r\nA\n\nDECLARE\r\nB\n\nDECLARE\r\nC\n") ≡ Some (codes "A" ∷ codes "B" ∷ codes "C" ∷ [])
unfolding effect_of no_history lined header_line begins is_comment is_declaration is_list_of_implementors block_decl declare_lines declared has_many_vars role_of method_len place_of unescaped vars_of nodes edges has_cycle links same_decl kept_edges orig_vars entry_before depth_of
points_by_file = refl

points_in_turns : names_in (codes "DECLARE\r\nA\n\nDECLARE\r\nC\n\nDECLARE\r\nB\n") ≡ Some (codes "A" ∷ codes "C" ∷ codes "B" ∷ [])
unfolding effect_of no_history lined header_line begins is_comment is_declaration is_list_of_implementors block_decl declare_lines declared has_many_vars role_of method_len place_of unescaped vars_of nodes edges has_cycle links same_decl kept_edges orig_vars entry_before depth_of
points_in_turns = refl

-- ---- two recorders
-- Each has the same declarations, an entry and an exit of one method, with a nonce of its own.
abbrev declarations : List ℕ
declarations = codes "ppt M:::ENTER\n\nppt M:::EXIT1\n\n"

abbrev calls_with : List ℕ → List ℕ
calls_with nonce = codes "M:::ENTER\nthis_invocation_nonce\n" ++ (nonce ++ (codes "\n\nM:::EXIT1\nthis_invocation_nonce\n" ++ (nonce ++ codes "\n")))

abbrev recorder : List ℕ → List ℕ
recorder nonce = declarations ++ calls_with nonce

abbrev both : List (List ℕ)
both = recorder (codes "1") ∷ recorder (codes "2") ∷ []

-- the points that they declare
abbrev points : List Point
points =
    declared_point (record { name = codes "M:::ENTER"; edges = []; vars = [] })
    ∷ implicit_exit (record { name = codes "M:::EXIT1"; edges = []; vars = [] })
    ∷ declared_point (record { name = codes "M:::EXIT1"; edges = []; vars = [] }) ∷ []

points_declared : option_map (λ (h : History). h.table) (result_ok (read_text false 100 1000 no_history (declarations ++ declarations))) ≡ Some points
unfolding effect_of no_history lined header_line begins is_comment is_declaration is_list_of_implementors block_decl ppt_of ppt_lines point_name declared has_many_vars role_of method_len place_of unescaped vars_of nodes edges has_cycle links same_decl kept_edges orig_vars entry_before depth_of operand
points_declared = refl

abbrev entry_block : List ℕ → Block
entry_block nonce = record { headers = []; body = codes "M:::ENTER" ∷ codes "this_invocation_nonce" ∷ nonce ∷ [] }

abbrev exit_block : List ℕ → Block
exit_block nonce = record { headers = []; body = codes "M:::EXIT1" ∷ codes "this_invocation_nonce" ∷ nonce ∷ [] }

-- the sample blocks of a recorder
abbrev samples_with : List ℕ → List Block
samples_with nonce = entry_block nonce ∷ exit_block nonce ∷ []

both_samples : map sample_blocks both ≡ samples_with (codes "1") ∷ samples_with (codes "2") ∷ []
unfolding header_line begins is_comment is_declaration is_list_of_implementors
both_samples = refl

abbrev entered : ℤ → Call
entered n = enters (record { point = 0; nonce = Some n; values = [] })

-- the calls of a recorder
record Calls (nonce : List ℕ) (n : ℤ) : Type 0 where
  entry : call_in points (entry_block nonce) ≡ entered n
  exit : call_in points (exit_block nonce) ≡ exits 0 (Some n)

first_calls : Calls (codes "1") (pos 1)
unfolding place_of unescaped role_of method_len vars_of sample_of point_named_by var_decls_at body_of is_nonce_line nonce_of integer_of whole_of call_of entry_of entry_before is_entry_at
first_calls = record { entry = refl; exit = refl }

second_calls : Calls (codes "2") (pos 2)
unfolding place_of unescaped role_of method_len vars_of sample_of point_named_by var_decls_at body_of is_nonce_line nonce_of integer_of whole_of call_of entry_of entry_before is_entry_at
second_calls = record { entry = refl; exit = refl }

-- they are recorders
two : {X : Type 0} (P : X → Type 0) (a b : X) → P a → P b → All P (a ∷ b ∷ [])
two P a b p q = All-cons P a (b ∷ []) p (All-cons P b [] q (All-nil P))

two_apart : {X : Type 0} (R : X → X → Type 0) (a b : X) → R a b → AllPairs R (a ∷ b ∷ [])
two_apart R a b r zero zero d lt within = absurd (omega (arith, lt))
two_apart R a b r zero (suc zero) d lt within = r
two_apart R a b r zero (suc (suc j)) d lt within = absurd (omega (arith, within))
two_apart R a b r (suc i) j d lt within = absurd (omega (arith, lt, within))

abbrev IsWhole : List ℕ → Type 0
IsWhole line = without_cr line ≡ line

no_last_cr : (nonce : List ℕ) → IsWhole nonce → All HasNoLastCr (samples_with nonce)
no_last_cr nonce e =
    let behind : All IsWhole (codes "this_invocation_nonce" ∷ nonce ∷ []) = two IsWhole (codes "this_invocation_nonce") nonce refl e in
    two HasNoLastCr (entry_block nonce) (exit_block nonce)
    (All-cons IsWhole (codes "M:::ENTER") (codes "this_invocation_nonce" ∷ nonce ∷ []) refl behind)
    (All-cons IsWhole (codes "M:::EXIT1") (codes "this_invocation_nonce" ∷ nonce ∷ []) refl behind)

abbrev nonce_in : Option (ℕ × ℤ) → ℕ
nonce_in None = 0
nonce_in (Some key) = nat_abs key.1

other_nonce : (key : ℕ × ℤ) → Some (0, pos 1) ≡ Some key → Some (0, pos 2) ≡ Some key → ⊥
other_nonce key p q = let e : 1 ≡ 2 = ap nonce_in (p ∙ sym q) in absurd (omega (arith, e))

sample_alone : (nonce : List ℕ) → All IsSampleAlone (samples_with nonce)
unfolding is_declaration is_list_of_implementors
sample_alone nonce =
    two IsSampleAlone (entry_block nonce) (exit_block nonce) (record { sample = refl; no_headers = refl }) (record { sample = refl; no_headers = refl })

with_nonces : (nonce : List ℕ) (n : ℤ) → Calls nonce n → All (λ b. HasNonce (call_in points b)) (samples_with nonce)
with_nonces nonce n calls =
    two (λ b. HasNonce (call_in points b)) (entry_block nonce) (exit_block nonce) (subst HasNonce (sym calls.entry) refl) (subst HasNonce (sym calls.exit) refl)

apart_by : (b c : Block) → method_and_nonce (call_in points b) ≡ Some (0, pos 1) → method_and_nonce (call_in points c) ≡ Some (0, pos 2)
    → ShareNoNonce (call_in points b) (call_in points c)
apart_by b c one other key p q = other_nonce key (sym one ∙ p) (sym other ∙ q)

apart_from : (b : Block) → method_and_nonce (call_in points b) ≡ Some (0, pos 1) → All (λ c. ShareNoNonce (call_in points b) (call_in points c)) (samples_with (codes "2"))
apart_from b one =
    two (λ c. ShareNoNonce (call_in points b) (call_in points c)) (entry_block (codes "2")) (exit_block (codes "2"))
    (apart_by b (entry_block (codes "2")) one (ap method_and_nonce second_calls.entry))
    (apart_by b (exit_block (codes "2")) one (ap method_and_nonce second_calls.exit))

samples_are_of_recorders : AreOfRecorders points (samples_with (codes "1") ∷ samples_with (codes "2") ∷ [])
samples_are_of_recorders = record {
  alone = two (All IsSampleAlone) (samples_with (codes "1")) (samples_with (codes "2")) (sample_alone (codes "1")) (sample_alone (codes "2"));
  nonces = two (All (λ b. HasNonce (call_in points b))) (samples_with (codes "1")) (samples_with (codes "2"))
      (with_nonces (codes "1") (pos 1) first_calls) (with_nonces (codes "2") (pos 2) second_calls);
  apart = two_apart (λ blocks others. All (λ b. All (λ c. ShareNoNonce (call_in points b) (call_in points c)) others) blocks) (samples_with (codes "1")) (samples_with (codes "2"))
      (two (λ b. All (λ c. ShareNoNonce (call_in points b) (call_in points c)) (samples_with (codes "2"))) (entry_block (codes "1")) (exit_block (codes "1"))
      (apart_from (entry_block (codes "1")) (ap method_and_nonce first_calls.entry))
      (apart_from (exit_block (codes "1")) (ap method_and_nonce first_calls.exit)));
}

both_whole : All (λ file. All HasNoLastCr (sample_blocks file)) both
unfolding header_line begins is_comment is_declaration is_list_of_implementors
both_whole =
    two (λ file. All HasNoLastCr (sample_blocks file)) (recorder (codes "1")) (recorder (codes "2"))
    (no_last_cr (codes "1") refl) (no_last_cr (codes "2") refl)

both_are_recorders : AreRecorders points both
both_are_recorders = record {
  blocks = subst (AreOfRecorders points) (sym both_samples) samples_are_of_recorders;
  no_last_cr = both_whole;
}
