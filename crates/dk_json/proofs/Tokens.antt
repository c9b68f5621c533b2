-- The tokens of objects and arrays that are made of lists.
use Rattle.std.proofs.Common.{◌≡◌, ◌∙◌, ◌++◌, ◌+◌, ◌<◌, ◌≤◌, ℕ, List, [], ◌∷◌, Some, append-nil, append_assoc, ap, get_or, length, map, option_and_then, refl, sym, take}
use Rattle.std.proofs.lemmas.List.{flat_map_more, take_more}
use Rattle.std.specs.List.{flat_map}
use Rattle.json.proofs.Printed.Trees.{value-json_tokens}
use Rattle.json.specs.Json.{Json, document, if_last, max_depth, value}
use Rattle.json.specs.Lex.{tokens}
use Rattle.json.specs.Token as token
use Rattle.json.specs.Token.{Token}
use Rattle.json.specs.Tree.{depth, items_tokens, json_tokens, members_tokens}
use Rattle.json.specs.Written.{Written}
use Rattle.dk_json.specs.Trees.{Adds, Field, field_tokens, fields_tokens, items_of, members_of}

pub members_tokens-members_of : (fs : List Field) → members_tokens (members_of fs) ≡ fields_tokens fs ++ token.end_object ∷ []
members_tokens-members_of [] = refl
members_tokens-members_of (f ∷ fs) =
    ap (λ ts. token.key f.0 ∷ (json_tokens f.1 ++ ts)) (members_tokens-members_of fs)
    ∙ ap (λ ts. token.key f.0 ∷ ts) (sym (append_assoc (json_tokens f.1) (fields_tokens fs) (token.end_object ∷ [])))

pub items_tokens-items_of : {X : Type 0} (json : X → Json) (xs : List X) → items_tokens (items_of (map json xs)) ≡ flat_map (λ x. json_tokens (json x)) xs ++ token.end_array ∷ []
items_tokens-items_of json [] = refl
items_tokens-items_of json (x ∷ xs) =
    ap (λ ts. json_tokens (json x) ++ ts) (items_tokens-items_of json xs)
    ∙ sym (append_assoc (json_tokens (json x)) (flat_map (λ y. json_tokens (json y)) xs) (token.end_array ∷ []))

pub fields_tokens-append : (fs gs : List Field) → fields_tokens (fs ++ gs) ≡ fields_tokens fs ++ fields_tokens gs
fields_tokens-append [] gs = refl
fields_tokens-append (f ∷ fs) gs =
    ap (λ ts. field_tokens f ++ ts) (fields_tokens-append fs gs) ∙ sym (append_assoc (field_tokens f) (fields_tokens fs) (fields_tokens gs))

-- the tokens of one item more
pub one_more : {X : Type 0} (piece : X → List Token) (items : List X) (i : ℕ) (x : X) (old so_far next : Written)
    → i < length items → x ≡ get_or items i x
    → Adds old so_far (flat_map piece (take i items)) → Adds so_far next (piece x)
    → Adds old next (flat_map piece (take (i + 1) items))
one_more piece items i x old so_far next within is before step = record {
  tokens =
      step.tokens
      ∙ ap (λ (ts : List Token). ts ++ piece x) before.tokens
      ∙ flat_map_more piece old.tokens (take i items) x
      ∙ ap (λ xs. old.tokens ++ flat_map piece xs) (ap (λ y. take i items ++ y ∷ []) is ∙ sym (take_more items i x within));
  before = step.before ∙ before.before;
}

-- a text with the tokens of a value is read as the value
pub document-tokens : (j : Json) (text : List ℕ) → depth j ≤ max_depth → tokens text ≡ json_tokens j → document text ≡ Some j
document-tokens j text shallow is =
    ap (option_and_then (λ p. if_last p.0 p.1))
    (ap (value max_depth) (is ∙ sym (append-nil (json_tokens j))) ∙ value-json_tokens j max_depth [] shallow)
