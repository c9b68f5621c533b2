-- Tokens that one call after another adds.
use Rattle.std.proofs.Common.{◌≡◌, ◌∙◌, ◌++◌, ℕ, List, [], ◌∷◌, Ok, append-nil, append_assoc, ap, map, subst, sym}
use Rattle.std.specs.List.{flat_map}
use Rattle.json.specs.Json.{Json, array, object}
use Rattle.json.specs.Lex.{tokens}
use Rattle.json.specs.Print.{print}
use Rattle.json.specs.Token as token
use Rattle.json.specs.Token.{Token}
use Rattle.json.specs.Tree.{json_tokens}
use Rattle.json.specs.Written.{Writes, Written}
use Rattle.dk_json.specs.Trees.{Adds, Field, field_tokens, fields_tokens, items_of, members_of}
use Rattle.dk_json.proofs.Tokens.{fields_tokens-append, items_tokens-items_of, members_tokens-members_of}

-- ---- one token, and some behind others
pub wrote : {E : Type 0} {x : Unit {0}} {old new : Written} {t : Token} → Writes {E = E} (Ok x) old new t → Adds old new (t ∷ [])
wrote w = record { tokens = w.ok; before = w.room.0 }

pub behind : {a b c : Written} (ts us : List Token) → Adds a b ts → Adds b c us → Adds a c (ts ++ us)
behind {a} ts us first second = record {
  tokens = second.tokens ∙ ap (λ (os : List Token). os ++ us) first.tokens ∙ append_assoc a.tokens ts us;
  before = second.before ∙ first.before;
}

pub the_same : {a b : Written} {ts us : List Token} → ts ≡ us → Adds a b ts → Adds a b us
the_same {a} {b} is added = subst (λ (os : List Token). Adds a b os) is added

-- ---- fields
pub field : {a b c : Written} (f : Field) → Adds a b (token.key f.0 ∷ []) → Adds b c (json_tokens f.1) → Adds a c (field_tokens f)
field f key value = behind (token.key f.0 ∷ []) (json_tokens f.1) key value

pub one_field : {a b : Written} (f : Field) → Adds a b (field_tokens f) → Adds a b (fields_tokens (f ∷ []))
one_field f added = the_same (sym (append-nil (field_tokens f))) added

pub fields_behind : {a b c : Written} (fs gs : List Field) → Adds a b (fields_tokens fs) → Adds b c (fields_tokens gs) → Adds a c (fields_tokens (fs ++ gs))
fields_behind fs gs first second = the_same (sym (fields_tokens-append fs gs)) (behind (fields_tokens fs) (fields_tokens gs) first second)

-- ---- objects and arrays
pub closed_fields : {a b c : Written} (fs : List Field) → Adds a b (token.begin_object ∷ fields_tokens fs) → Adds b c (token.end_object ∷ [])
    → Adds a c (json_tokens (object (members_of fs)))
closed_fields fs inner end =
    the_same (ap (λ ts. token.begin_object ∷ ts) (sym (members_tokens-members_of fs))) (behind (token.begin_object ∷ fields_tokens fs) (token.end_object ∷ []) inner end)

pub around_fields : {a b c d : Written} (fs : List Field) → Adds a b (token.begin_object ∷ []) → Adds b c (fields_tokens fs) → Adds c d (token.end_object ∷ [])
    → Adds a d (json_tokens (object (members_of fs)))
around_fields fs begin inner end = closed_fields fs (behind (token.begin_object ∷ []) (fields_tokens fs) begin inner) end

pub around_items : {X : Type 0} {a b c d : Written} (json : X → Json) (xs : List X) → Adds a b (token.begin_array ∷ [])
    → Adds b c (flat_map (λ x. json_tokens (json x)) xs) → Adds c d (token.end_array ∷ []) → Adds a d (json_tokens (array (items_of (map json xs))))
around_items json xs begin inner end =
    the_same (ap (λ ts. token.begin_array ∷ ts) (sym (items_tokens-items_of json xs)))
    (behind (token.begin_array ∷ flat_map (λ x. json_tokens (json x)) xs) (token.end_array ∷ [])
    (behind (token.begin_array ∷ []) (flat_map (λ x. json_tokens (json x)) xs) begin inner) end)

-- ---- the text of a writer that was new
module _ (old new : Written) (ts : List Token) (text : List ℕ) (before : old.before ≡ []) (none : old.tokens ≡ []) (added : Adds old new ts)
    (is : text ≡ new.before ++ print new.tokens) where
  tokens_are : new.tokens ≡ ts
  tokens_are = added.tokens ∙ ap (λ (os : List Token). os ++ ts) none

  pub text_is : text ≡ print ts
  text_is = is ∙ ap (λ (bs : List ℕ). bs ++ print new.tokens) (added.before ∙ before) ∙ ap print tokens_are

  pub tokens_back : tokens (print new.tokens) ≡ new.tokens → tokens text ≡ ts
  tokens_back back = ap tokens text_is ∙ subst (λ (us : List Token). tokens (print us) ≡ us) tokens_are back
