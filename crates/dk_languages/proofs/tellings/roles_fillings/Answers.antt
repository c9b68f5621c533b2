use Rattle.std.proofs.Common.{◌≡◌, ◌<◌, ◌∙◌, ◌++◌, ◌∷◌, [], ◌+◌, ℕ, Some, ap, arith, get_or, length, length-append, rules, sym, take}
use Rattle.std.proofs.lemmas.List.{take_all}
use Rattle.std.proofs.lemmas.Slice.Zip.{get_or-zip, length-zip, zip_end, zip_turn}
use Rattle.std.specs.Iterator.Adapters.{zip_first, zip_second}
use Rattle.std.specs.List.{flat_map, zip}
use Rattle.std.specs.Slice.Iter.{iter_rest}
use Rattle.dk_languages.specs.Tellings.{role_fillings, role_letters}
use Rattle.dk_languages.specs.declared.speaking.Spoken.{Spoken}
use Rattle.dk_languages.proofs.Growing.{one_more}
use Rattle.dk_languages.proofs.tellings.roles_fillings.Goals as goal

pub loop-letters-preserved : goal.loop-letters-preserved
loop-letters-preserved c =
    let roles = c.args.roles.now in
    let n : ℕ = length c.loop-letters.yielded in
    let first : iter_rest (zip_first c.into_iter-letters-iterator.result) ≡ role_letters = search rules in
    let second : iter_rest (zip_second c.into_iter-letters-iterator.result) ≡ c.args.roles.now = search rules in
    let is : c.next.result ≡ Some (c.in-Some.letters, c.in-Some.spoken) = search rules in
    let turn = zip_turn role_letters roles c.loop-letters.yielded c.into_iter-letters-iterator.result c.loop-letters.letters-iterator c.next.new.self c.next.result
    first second c.loop-letters.yielded_by (c.in-Some.letters, c.in-Some.spoken) is c.next.ensures.steps in
    let letters : ℕ × ℕ × ℕ = c.in-Some.letters.now in
    let spoken : Spoken = c.in-Some.spoken.now in
    let pair : (ℕ × ℕ × ℕ) × Spoken = (letters, spoken) in
    let both : pair ≡ (get_or role_letters n letters, get_or roles n spoken) =
    ap (λ (k : ℕ × ℕ × ℕ). (k, spoken)) (turn.2 letters) ∙ ap (λ (s : Spoken). (get_or role_letters n letters, s)) (turn.3 spoken) in
    let here : pair ≡ get_or (zip role_letters roles) n pair = both ∙ sym (get_or-zip role_letters roles n pair turn.0 turn.1) in
    let within : n < length (zip role_letters roles) = omega (arith, length-zip role_letters roles, turn.0, turn.1) in
    let long : length (c.loop-letters.yielded ++ (c.in-Some.letters, c.in-Some.spoken) ∷ []) ≡ n + 1 =
    omega (arith, length-append c.loop-letters.yielded ((c.in-Some.letters, c.in-Some.spoken) ∷ [])) in
    one_more (zip role_letters roles) n pair within here role_fillings [] c.loop-letters.fillings c.push_role.new.fillings c.loop-letters.invariant c.in_ok-push_role.ensures
    ∙ ap (λ (k : ℕ). flat_map role_fillings (take k (zip role_letters roles))) (sym long)

pub returns : goal.returns
returns c =
    let roles = c.args.roles.now in
    let first : iter_rest (zip_first c.into_iter-letters-iterator.result) ≡ role_letters = search rules in
    let second : iter_rest (zip_second c.into_iter-letters-iterator.result) ≡ c.args.roles.now = search rules in
    let all = zip_end role_letters roles c.loop-letters.yielded c.into_iter-letters-iterator.result c.loop-letters.letters-iterator c.next.new.self c.next.result
    first second c.loop-letters.yielded_by c.in-None.is c.next.ensures.steps in
    c.loop-letters.invariant
    ∙ ap (flat_map role_fillings) (take_all (length c.loop-letters.yielded) (zip role_letters roles) (omega (arith, length-zip role_letters roles, all)))
