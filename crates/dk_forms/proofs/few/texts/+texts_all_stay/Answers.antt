use Rattle.std.proofs.Common.{◌≡◌, ◌∷◌, ℕ, [], List, Bor, ap, map, get_or}
use Rattle.dk_forms.proofs.TextsLaws.{texts_laws, texts_summary}
use Rattle.dk_forms.proofs.ListStays.{first_moves_of, more_stay_of, others, split}
use Rattle.dk_forms.proofs.few.texts.+texts_all_stay.Goals as goal

pub returns-then-text_stays : goal.returns-then-text_stays
returns-then-text_stays t c =
    let xs = c.args.values.now in
    let d : Bor (List ℕ) = record { ref_ptr = (0, 0); now = [] } in
    more_stay_of texts_laws texts_summary c.args.state.now c.requires (get_or xs 0 d).now (map (λ (t : Bor (List ℕ)). t.now) (others xs))
    (ap (map (λ (t : Bor (List ℕ)). t.now)) (split d xs c.in-len1-up.len_at_least)) c.text_stays.ensures c.if-text_stays.true c.texts_all_stay.ensures

pub returns-else-text_stays : goal.returns-else-text_stays
returns-else-text_stays t c =
    let xs = c.args.values.now in
    let d : Bor (List ℕ) = record { ref_ptr = (0, 0); now = [] } in
    first_moves_of texts_laws texts_summary c.args.state.now c.requires (get_or xs 0 d).now (map (λ (t : Bor (List ℕ)). t.now) (others xs))
    (ap (map (λ (t : Bor (List ℕ)). t.now)) (split d xs c.in-len1-up.len_at_least)) c.text_stays.ensures c.if-text_stays.false
