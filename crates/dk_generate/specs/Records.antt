-- The texts of records.
use Rattle.std.specs.Prelude.{◌++◌, ℕ, ℤ, pos, negsuc, zero, suc, List, codes, map}
use Rattle.std.specs.Fmt.{decimal, signed_decimal}
use Rattle.std.specs.List.{join_with_byte}
use Rattle.dk_generate.specs.Calls.{after_call, last_item}
use Rattle.dk_generate.specs.declared.calls.Call.{Call}
use Rattle.dk_generate.specs.declared.calls.Call.TheVariants.{Push, Pop}
use Rattle.dk_generate.specs.declared.calls.Stack.{Stack}

-- the call's number as the nonce
unfoldable pub nonce_text : ℕ → List ℕ
nonce_text number = codes "this_invocation_nonce\n" ++ (decimal number ++ codes "\n")

-- the lines in front of the values: a blank one, which ends the block before, the point's name, and the nonce
unfoldable pub head_text : List ℕ → ℕ → List ℕ
head_text point number = codes "\n" ++ (point ++ (codes "\n" ++ nonce_text number))

-- a variable with its value and the mark 1
abbrev pub value_text : List ℕ → List ℕ → List ℕ
value_text name value = name ++ (codes "\n" ++ (value ++ codes "\n1\n"))

unfoldable pub number_text : List ℕ → ℕ → List ℕ
number_text name number = value_text name (decimal number)

-- the place of the last item, counted from 0; -1 where the stack is empty
abbrev pub top_of : ℕ → ℤ
top_of zero = negsuc 0
top_of (suc n) = pos n

unfoldable pub top_text : ℕ → List ℕ
top_text height = value_text (codes "this.top") (signed_decimal (top_of height))

-- single blanks (32) between the items, and brackets round them
unfoldable pub items_text : List ℕ → List ℕ
items_text items = value_text (codes "this.items[..]") (codes "[" ++ (join_with_byte 32 (map decimal items) ++ codes "]"))

unfoldable pub stack_text : Stack → List ℕ
stack_text stack = top_text stack.height ++ items_text stack.items

-- the records of a push of this item, from a stack to another
unfoldable pub push_text : ℕ → Stack → ℕ → Stack → List ℕ
push_text number before item after =
    head_text (codes "Stack.push(int):::ENTER") number ++ (stack_text before ++ (number_text (codes "x") item
    ++ (head_text (codes "Stack.push(int):::EXIT1") number ++ (stack_text after ++ number_text (codes "x") item))))

-- the records of a pop that returns this item
unfoldable pub pop_text : ℕ → Stack → ℕ → Stack → List ℕ
pop_text number before item after =
    head_text (codes "Stack.pop():::ENTER") number ++ (stack_text before
    ++ (head_text (codes "Stack.pop():::EXIT2") number ++ (stack_text after ++ number_text (codes "return") item)))

-- the two records of a call: at the entry the stack is as before it, at the exit as behind it
abbrev pub call_text : ℕ → Stack → Call → List ℕ
call_text number stack (Push item) = push_text number stack item (after_call stack (Push item))
call_text number stack Pop = pop_text number stack (last_item stack) (after_call stack Pop)
