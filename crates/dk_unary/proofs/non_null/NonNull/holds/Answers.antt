use Rattle.std.proofs.Common.{rules, FitsSigned, w64, Some, ap, sym, ◌∙◌}
use Rattle.std.proofs.lemmas.Int.{to_z-of_z}
use Rattle.dk_base.specs.Values.{values_of}
use Rattle.dk_meanings.specs.Meanings.{relation_of}
use Rattle.dk_meanings.specs.Relations.{is_nonnull, is_nonzero, is_nonzero_hash}
use Rattle.dk_unary.proofs.Points.{non_null_hash, non_null_int, non_null_str}
use Rattle.dk_unary.proofs.Takes.{non_null_kind, non_null_takes}
use Rattle.dk_unary.specs.Rows.{non_null_row}
use Rattle.dk_unary.proofs.non_null.NonNull.holds.Goals as goal

pub int_at-requires-clause-kind : goal.int_at-requires-clause-kind
int_at-requires-clause-kind c = non_null_takes c.args.self (values_of c.args.tuple.now) c.requires ∙ ap (λ r. Some (non_null_kind r)) c.in-Int.is

pub hash_at-requires-clause-kind : goal.hash_at-requires-clause-kind
hash_at-requires-clause-kind c = non_null_takes c.args.self (values_of c.args.tuple.now) c.requires ∙ ap (λ r. Some (non_null_kind r)) c.in-Hash.is

pub text_at-requires-clause-kind : goal.text_at-requires-clause-kind
text_at-requires-clause-kind c = non_null_takes c.args.self (values_of c.args.tuple.now) c.requires ∙ ap (λ r. Some (non_null_kind r)) c.in-Str.is

pub returns-in-Int : goal.returns-in-Int
returns-in-Int c =
    let t = values_of c.args.tuple.now in
    let x = c.int_at.result in
    let fits : FitsSigned w64 x = search rules in
    c.is_nonzero.ensures ∙ ap is_nonzero (to_z-of_z w64 x fits ∙ c.int_at.ensures) ∙ sym (non_null_int t) ∙ ap (λ r. relation_of (non_null_row r) t) (sym c.in-Int.is)

pub returns-in-Hash : goal.returns-in-Hash
returns-in-Hash c =
    let t = values_of c.args.tuple.now in
    ap is_nonzero_hash c.hash_at.ensures ∙ sym (non_null_hash t) ∙ ap (λ r. relation_of (non_null_row r) t) (sym c.in-Hash.is)

pub returns-in-Str : goal.returns-in-Str
returns-in-Str c =
    let t = values_of c.args.tuple.now in
    c.is_nonnull.ensures ∙ ap is_nonnull c.text_at.ensures ∙ sym (non_null_str t) ∙ ap (λ r. relation_of (non_null_row r) t) (sym c.in-Str.is)
