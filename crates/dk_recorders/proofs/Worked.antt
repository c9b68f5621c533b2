-- Sample blocks of two recorders behind a history, in several orders.
use Rattle.std.proofs.Common.{◌≡◌, ◌∷◌, [], ◌++◌, ℕ, pos, Bool, true, false, All, List, None, Option, Some, codes, option_map, refl}
use Rattle.std.proofs.lemmas.List.Elements.{All-cons, All-nil}
use Rattle.std.specs.Result.{result_ok}
use Rattle.dk_base.specs.Values.Items.{int_item}
use Rattle.dk_base.specs.Names.{unescaped}
use Rattle.dk_base.specs.Numbers.{integer_of, whole_of}
use Rattle.dk_base.specs.Reading.{Line}
use Rattle.dk_base.specs.declared.kinds.Kind.TheVariants as kind
use Rattle.dk_base.specs.declared.values.Value.{Value}
use Rattle.dk_base.specs.declared.values.Value.TheVariants as value
use Rattle.dk_graph.specs.Names.{place_of}
use Rattle.dk_decl.specs.Comments.{is_comment}
use Rattle.dk_decl.specs.Headers.{comparability_word, first_header, header_line}
use Rattle.dk_decl.specs.LineWords.{begins}
use Rattle.dk_decl.specs.declared.decls.PointDecl.{PointDecl}
use Rattle.dk_decl.specs.declared.decls.VarDecl.{VarDecl}
use Rattle.dk_points.specs.Names.{method_len, role_of}
use Rattle.dk_points.specs.Table.{declared_point, implicit_exit}
use Rattle.dk_points.specs.Vars.{entry_before, entry_of}
use Rattle.dk_trace.specs.Bodies.{body_of, is_nonce_line, nonce_of}
use Rattle.dk_trace.specs.Marks.{marked_value, read_value}
use Rattle.dk_trace.specs.Records.{point_named_by, sample_of, var_decls_at}
use Rattle.dk_trace.specs.Values.{named_kind}
use Rattle.dk_calls.specs.Origs.{orig_values, own_vars}
use Rattle.dk_calls.specs.Records.{call_of, is_entry_at, values_at_exit}
use Rattle.dk_calls.specs.Waiting.{enters}
use Rattle.dk_template.specs.declared.grammar.Grammar.TheVariants.{Two}
use Rattle.dk_blocks.specs.History.{History, base_values, effect_of, is_declaration, is_list_of_implementors}
use Rattle.dk_turns.specs.Blocks.{Block}
use Rattle.dk_recorders.specs.Blocks.{after_blocks, content_of}
use Rattle.dk_recorders.specs.Interleaving.{IsInterleaved}
use Rattle.dk_recorders.proofs.Spaced.{numbered_blocks}

-- ---- the contents of blocks
abbrev line : ℕ → List ℕ → Line
line n bytes = record { number = n; bytes = bytes }

-- comments in front of the record and the numbers of the lines are left out
without_comments : content_of first_header (record { lines = line 5 (codes "# a") ∷ line 6 (codes "P") ∷ line 7 (codes "# b") ∷ []; close = 8 })
    ≡ record { headers = []; body = codes "P" ∷ codes "# b" ∷ [] }
unfolding is_comment header_line begins
without_comments = refl

-- header lines in front of the record are none of it; where a word is awaited, the first line is one
with_headers : content_of first_header (record { lines = line 1 (codes "input-language C") ∷ line 2 (codes "P") ∷ []; close = 3 })
    ≡ record { headers = codes "input-language C" ∷ []; body = codes "P" ∷ [] }
unfolding is_comment header_line begins
with_headers = refl

behind_word : content_of (record first_header { awaits_word = true }) (record { lines = line 1 (codes "P") ∷ line 2 (codes "Q") ∷ []; close = 3 })
    ≡ record { headers = codes "P" ∷ []; body = codes "Q" ∷ [] }
unfolding is_comment header_line comparability_word begins
behind_word = refl

-- ---- orders
-- the next item is the first of one of the lists
next_of : (front : List (List ℕ)) (item : ℕ) (rest : List ℕ) (back : List (List ℕ)) (items : List ℕ)
    → IsInterleaved items (front ++ rest ∷ back) → IsInterleaved (item ∷ items) (front ++ (item ∷ rest) ∷ back)
next_of front item rest back items more = (front, (rest, (back, refl, more)))

abbrev IsOver : List ℕ → Type 0
IsOver items = items ≡ []

none_left : All IsOver ([] ∷ [] ∷ [])
none_left = All-cons IsOver [] ([] ∷ []) refl (All-cons IsOver [] [] refl (All-nil IsOver))

-- the second list's item between those of the first
between : IsInterleaved {X = ℕ} (1 ∷ 3 ∷ 2 ∷ []) ((1 ∷ 2 ∷ []) ∷ (3 ∷ []) ∷ [])
between =
    next_of [] 1 (2 ∷ []) ((3 ∷ []) ∷ []) (3 ∷ 2 ∷ [])
    (next_of ((2 ∷ []) ∷ []) 3 [] [] (2 ∷ [])
    (next_of [] 2 [] ([] ∷ []) [] none_left))

-- ---- a history
-- of a method whose entry and exit have a number x
abbrev x : VarDecl
x = record { name = codes "x"; kind = Some kind.Int; compar = record { elem = pos 1; index = pos 1 }; constant = None; constant_line = false; parents = [] }

abbrev entry : PointDecl
entry = record { name = codes "M:::ENTER"; edges = []; vars = x ∷ [] }

abbrev exit : PointDecl
exit = record { name = codes "M:::EXIT1"; edges = []; vars = x ∷ [] }

-- the entry and the exit have a sample each, and an entry without a nonce waits
abbrev before : History
before = record {
  table = declared_point entry ∷ implicit_exit exit ∷ declared_point exit ∷ [];
  samples = ((value.Int (pos 7) ∷ []) ∷ []) ∷ [] ∷ ((value.Int (pos 8) ∷ value.Int (pos 7) ∷ []) ∷ []) ∷ [];
  header = first_header;
  calls = enters (record { point = 0; nonce = None; values = value.Int (pos 7) ∷ [] }) ∷ [];
  grammar = Two;
}

-- ---- records
abbrev record_of : List ℕ → List ℕ → List ℕ → Block
record_of point nonce number = record { headers = []; body = point ∷ codes "this_invocation_nonce" ∷ nonce ∷ codes "x" ∷ number ∷ codes "1" ∷ [] }

abbrev entry_with : List ℕ → List ℕ → Block
entry_with nonce number = record_of (codes "M:::ENTER") nonce number

abbrev exit_with : List ℕ → List ℕ → Block
exit_with nonce number = record_of (codes "M:::EXIT1") nonce number

-- the samples of all points behind blocks, if these are accepted
abbrev samples_behind : Bool → List Block → Option (List (List (List Value)))
samples_behind ignores bs = option_map (λ (h : History). h.samples) (result_ok (after_blocks ignores before (numbered_blocks 0 bs)))

abbrev whole : ℕ → Value
whole n = value.Int (pos n)

-- what they are where the entry and the exit have these behind the ones before
abbrev behind_both : List (List Value) → List (List Value) → Option (List (List (List Value)))
behind_both entries exits = Some (((whole 7 ∷ []) ∷ entries) ∷ [] ∷ ((whole 8 ∷ whole 7 ∷ []) ∷ exits) ∷ [])

-- ---- two recorders
-- Each exit has its number, and then that of its recorder's entry.
one_by_one : samples_behind false (entry_with (codes "1") (codes "10") ∷ exit_with (codes "1") (codes "11") ∷ entry_with (codes "2") (codes "20") ∷ exit_with (codes "2") (codes "21") ∷ [])
    ≡ behind_both ((whole 10 ∷ []) ∷ (whole 20 ∷ []) ∷ []) ((whole 11 ∷ whole 10 ∷ []) ∷ (whole 21 ∷ whole 20 ∷ []) ∷ [])
unfolding effect_of int_item unescaped integer_of whole_of place_of is_comment header_line begins method_len role_of entry_before entry_of body_of is_nonce_line nonce_of marked_value read_value point_named_by sample_of var_decls_at named_kind orig_values own_vars call_of is_entry_at values_at_exit base_values is_declaration is_list_of_implementors
one_by_one = refl

in_turns : samples_behind false (entry_with (codes "1") (codes "10") ∷ entry_with (codes "2") (codes "20") ∷ exit_with (codes "1") (codes "11") ∷ exit_with (codes "2") (codes "21") ∷ [])
    ≡ behind_both ((whole 10 ∷ []) ∷ (whole 20 ∷ []) ∷ []) ((whole 11 ∷ whole 10 ∷ []) ∷ (whole 21 ∷ whole 20 ∷ []) ∷ [])
unfolding effect_of int_item unescaped integer_of whole_of place_of is_comment header_line begins method_len role_of entry_before entry_of body_of is_nonce_line nonce_of marked_value read_value point_named_by sample_of var_decls_at named_kind orig_values own_vars call_of is_entry_at values_at_exit base_values is_declaration is_list_of_implementors
in_turns = refl

other_first : samples_behind false (entry_with (codes "2") (codes "20") ∷ entry_with (codes "1") (codes "10") ∷ exit_with (codes "2") (codes "21") ∷ exit_with (codes "1") (codes "11") ∷ [])
    ≡ behind_both ((whole 20 ∷ []) ∷ (whole 10 ∷ []) ∷ []) ((whole 21 ∷ whole 20 ∷ []) ∷ (whole 11 ∷ whole 10 ∷ []) ∷ [])
unfolding effect_of int_item unescaped integer_of whole_of place_of is_comment header_line begins method_len role_of entry_before entry_of body_of is_nonce_line nonce_of marked_value read_value point_named_by sample_of var_decls_at named_kind orig_values own_vars call_of is_entry_at values_at_exit base_values is_declaration is_list_of_implementors
other_first = refl

-- ---- an exit whose recorder has no entry for it
-- It is refused in each order, or left out in each. It doesn't take the entry that waited before.
refused_last : samples_behind false (entry_with (codes "1") (codes "10") ∷ exit_with (codes "1") (codes "11") ∷ exit_with (codes "2") (codes "21") ∷ [])
    ≡ None
unfolding effect_of int_item unescaped integer_of whole_of place_of is_comment header_line begins method_len role_of entry_before entry_of body_of is_nonce_line nonce_of marked_value read_value point_named_by sample_of var_decls_at named_kind orig_values own_vars call_of is_entry_at values_at_exit base_values is_declaration is_list_of_implementors
refused_last = refl

refused_first : samples_behind false (exit_with (codes "2") (codes "21") ∷ entry_with (codes "1") (codes "10") ∷ exit_with (codes "1") (codes "11") ∷ [])
    ≡ None
unfolding effect_of int_item unescaped integer_of whole_of place_of is_comment header_line begins method_len role_of entry_before entry_of body_of is_nonce_line nonce_of marked_value read_value point_named_by sample_of var_decls_at named_kind orig_values own_vars call_of is_entry_at values_at_exit base_values is_declaration is_list_of_implementors
refused_first = refl

left_out_last : samples_behind true (entry_with (codes "1") (codes "10") ∷ exit_with (codes "1") (codes "11") ∷ exit_with (codes "2") (codes "21") ∷ [])
    ≡ behind_both ((whole 10 ∷ []) ∷ []) ((whole 11 ∷ whole 10 ∷ []) ∷ [])
unfolding effect_of int_item unescaped integer_of whole_of place_of is_comment header_line begins method_len role_of entry_before entry_of body_of is_nonce_line nonce_of marked_value read_value point_named_by sample_of var_decls_at named_kind orig_values own_vars call_of is_entry_at values_at_exit base_values is_declaration is_list_of_implementors
left_out_last = refl

left_out_first : samples_behind true (exit_with (codes "2") (codes "21") ∷ entry_with (codes "1") (codes "10") ∷ exit_with (codes "1") (codes "11") ∷ [])
    ≡ behind_both ((whole 10 ∷ []) ∷ []) ((whole 11 ∷ whole 10 ∷ []) ∷ [])
unfolding effect_of int_item unescaped integer_of whole_of place_of is_comment header_line begins method_len role_of entry_before entry_of body_of is_nonce_line nonce_of marked_value read_value point_named_by sample_of var_decls_at named_kind orig_values own_vars call_of is_entry_at values_at_exit base_values is_declaration is_list_of_implementors
left_out_first = refl

-- ---- two recorders that share a nonce
-- The entries go to other exits in another order, so a law without this premise would not hold.
shared_by_file : samples_behind false (entry_with (codes "1") (codes "10") ∷ exit_with (codes "1") (codes "11") ∷ entry_with (codes "1") (codes "20") ∷ exit_with (codes "1") (codes "21") ∷ [])
    ≡ behind_both ((whole 10 ∷ []) ∷ (whole 20 ∷ []) ∷ []) ((whole 11 ∷ whole 10 ∷ []) ∷ (whole 21 ∷ whole 20 ∷ []) ∷ [])
unfolding effect_of int_item unescaped integer_of whole_of place_of is_comment header_line begins method_len role_of entry_before entry_of body_of is_nonce_line nonce_of marked_value read_value point_named_by sample_of var_decls_at named_kind orig_values own_vars call_of is_entry_at values_at_exit base_values is_declaration is_list_of_implementors
shared_by_file = refl

shared_in_turns : samples_behind false (entry_with (codes "1") (codes "10") ∷ entry_with (codes "1") (codes "20") ∷ exit_with (codes "1") (codes "11") ∷ exit_with (codes "1") (codes "21") ∷ [])
    ≡ behind_both ((whole 10 ∷ []) ∷ (whole 20 ∷ []) ∷ []) ((whole 11 ∷ whole 20 ∷ []) ∷ (whole 21 ∷ whole 10 ∷ []) ∷ [])
unfolding effect_of int_item unescaped integer_of whole_of place_of is_comment header_line begins method_len role_of entry_before entry_of body_of is_nonce_line nonce_of marked_value read_value point_named_by sample_of var_decls_at named_kind orig_values own_vars call_of is_entry_at values_at_exit base_values is_declaration is_list_of_implementors
shared_in_turns = refl
