use Rattle.std.proofs.Common.{◌++◌, ◌∙◌, ◌∷◌, ap, sym}
use Rattle.json.specs.Token as token
use Rattle.json.specs.Tree.{json_tokens}
use Rattle.dk_json.specs.Lines.{claimed_fields, line_json, said_fields}
use Rattle.dk_json.specs.Trees.{fields_tokens}
use Rattle.dk_json.proofs.Adding.{behind, closed_fields, text_is, the_same, tokens_back, wrote}
use Rattle.dk_json.proofs.Shallow.{line_shallow}
use Rattle.dk_json.proofs.Tokens.{document-tokens, fields_tokens-append}
use Rattle.dk_json.proofs.lines.line.Goals as goal

pub returns : goal.returns
returns c =
    let told = claimed_fields c.args.claimed in
    let said = said_fields c.args.said in
    let fields =
    the_same (ap (λ ts. token.begin_object ∷ ts) (sym (fields_tokens-append told said)))
    (behind (token.begin_object ∷ fields_tokens told) (fields_tokens said) c.in_ok-push_claimed.ensures c.in_ok-push_said.ensures) in
    let added = closed_fields (told ++ said) fields (wrote c.in_ok-end_object.ensures) in
    let value = line_json c.args.claimed c.args.said in
    record {
      text = text_is _ _ (json_tokens value) _ (c.new-writer.ensures.before ∙ c.new.ensures.items) c.new-writer.ensures.tokens added c.into_inner.ensures.items;
      reads_back =
          document-tokens value _ (line_shallow c.args.claimed c.args.said)
          (tokens_back _ _ (json_tokens value) _ (c.new-writer.ensures.before ∙ c.new.ensures.items) c.new-writer.ensures.tokens added c.into_inner.ensures.items
          c.into_inner.ensures.reads_back);
    }
