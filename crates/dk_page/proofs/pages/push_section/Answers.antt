use Rattle.std.proofs.Common.{◌++◌, ℕ, List, ap, codes}
use Rattle.std.proofs.lemmas.Result.{on_ok_weaker}
use Rattle.std.specs.List.{flat_map}
use Rattle.dk_page.specs.Groups.{groups}
use Rattle.dk_page.specs.Pages.{part, title}
use Rattle.dk_page.specs.declared.pages.PageLine.{PageLine}
use Rattle.dk_page.proofs.Adding.{more, more_as}
use Rattle.dk_page.proofs.pages.push_section.Goals as goal

pub returns : goal.returns
returns c =
    let old : List ℕ = c.args.text.now in
    let s = c.args.told.now in
    let parts : List ℕ = flat_map (part s.samples s.lines) groups in
    let lined = more_as old (title s) parts (flat_map (part s.samples c.as_slice.result.now) groups) c.push_title.new.text c.push_parts.new.text
    c.in_ok-push_title.ensures c.in_ok-push_parts.ensures (ap (λ (ls : List PageLine). flat_map (part s.samples ls) groups) c.as_slice.ensures) in
    on_ok_weaker c.append.result
    (λ last. more old (title s ++ parts) (codes "</section>\n") c.push_parts.new.text c.append.new.self lined last) c.append.ensures.ok
