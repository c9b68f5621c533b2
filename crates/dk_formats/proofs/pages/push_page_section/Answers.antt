use Rattle.std.proofs.Common.{◌∙◌, ℕ, List, refl, subst}
use Rattle.std.proofs.lemmas.Result.{on_ok_weaker}
use Rattle.dk_page.specs.Headings.{IsNext}
use Rattle.dk_formats.proofs.pages.push_page_section.Goals as goal

pub returns : goal.returns
returns c =
    on_ok_weaker c.push.result
    (λ pushed. record {
      added = record {
        id = c.in_ok-id.id;
        point = c.in_ok-point.point;
        samples = c.args.section.now.samples;
        lines = c.in_ok-lines.lines;
      };
      is_last = pushed;
      next = λ names stands.
          subst (λ (name : List ℕ). IsNext c.args.headings.now names name c.in_ok-id.id c.next.new.self) c.as_slice.ensures
          (c.in_ok-id.ensures names stands);
      point_is = c.in_ok-point.ensures ∙ c.as_slice-2.ensures;
      samples_are = refl;
      lines_are = c.in_ok-lines.ensures;
    }) c.push.ensures.ok
