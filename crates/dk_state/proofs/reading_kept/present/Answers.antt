use Rattle.std.specs.Prelude.{◌≡◌, ◌==◌, ◌++◌, ◌∷◌, [], Bool, IfOk, List, codes, map, nat_eq, refl}
use Rattle.std.specs.List.{starts_with}
use Rattle.std.proofs.Common.{◌∙◌, ap, append-nil, sym}
use Rattle.std.proofs.lemmas.Bool.{false≢true}
use Rattle.dk_state.specs.Kept.{bits_of, if_any}
use Rattle.dk_state.specs.Lines.{behind_blank, fields_text}
use Rattle.dk_state.proofs.KeptLines.{bits_back, bits_plain}
use Rattle.dk_state.proofs.Plain.{if_ok_weaker}
use Rattle.dk_state.proofs.reading_kept.present.Goals as goal

pub returns-then-not-is_at-clause-read : goal.returns-then-not-is_at-clause-read
returns-then-not-is_at-clause-read c present rest is = go present is
  where
    go : (present : List Bool) → c.args.front.now ≡ fields_text (if_any (bits_of present)) ++ 10 ∷ rest → (c.new.result ≡ present) × (c.args.front.now ≡ 10 ∷ rest)
    go [] is = (c.new.ensures, is)
    go (b ∷ present) is = absurd (false≢true (c.if-not-is_at.ensures.begins ∙ ap (λ f. starts_with nat_eq f (codes " ")) is))

pub returns-clause-read : goal.returns-clause-read
returns-clause-read c present rest is = go present is
  where
    go : (present : List Bool) → c.args.front.now ≡ fields_text (if_any (bits_of present)) ++ 10 ∷ rest → IfOk c.truths.result (λ own. (own ≡ present) × (c.field.new.self ≡ 10 ∷ rest))
    go [] is = absurd (false≢true (sym (ap (λ f. starts_with nat_eq f (codes " ")) is) ∙ sym c.if-not-is_at.ensures.begins))
    go (b ∷ present) is =
        let bits = bits_of (b ∷ present) in
        let field = c.field.ensures.read bits (10 ∷ rest) (bits_plain (b ∷ present)) refl (is ∙ ap (λ t. t ++ 10 ∷ rest) (append-nil (behind_blank bits))) in
        if_ok_weaker c.truths.result (λ own e. (e ∙ ap (map (λ b. b == 49)) field.0 ∙ bits_back (b ∷ present), field.1)) c.truths.ensures
