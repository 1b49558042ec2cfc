-- What is said of a fault: its rule, and what to change, in a sentence or two each.
use Rattle.std.specs.Prelude.{ℕ, List, [], codes}
use Rattle.schema_tree.specs.Fault.{FaultD, memory, malformed, missing_ref, external_ref, unguarded, depth, places, float, value_number, invalid_value, bad_value, invalid_schema, unsupported, texts}
use Rattle.schema_tree.specs.declared.fault.InvalidKind.{InvalidKind}
use Rattle.schema_tree.specs.declared.fault.InvalidKind.TheVariants.{Array, Pattern}
use Rattle.schema_tree.specs.declared.fault.UnsupportedKind.{UnsupportedKind}
use Rattle.schema_tree.specs.declared.fault.UnsupportedKind.TheVariants.{Conditional, Mix, MixedEnum, NestedEnum, Not, AnyOne, Names, Subtract}

-- ---- kinds

abbrev pub invalid_word : InvalidKind → List ℕ
invalid_word Array = codes "Array"
invalid_word Pattern = codes "Pattern"

abbrev pub invalid_rule : InvalidKind → List ℕ
invalid_rule Array = codes "The list has `contains`, or schemas by place where `minItems` and `maxItems` aren't one number above 0, or where `uniqueItems` or `contains` stands beside them."
invalid_rule Pattern = codes "The pattern isn't plain, which is what means one thing in ECMA-262 (22.2.1) and in crate `regex`."

abbrev pub invalid_change : InvalidKind → List ℕ
invalid_change Array = codes "Of a list by place let both sizes be its length, or write one schema at `items`. Leave `contains` out: then more lists are taken."
invalid_change Pattern = codes "Let lookaheads stand right behind a `^` at the front, lookbehinds right before a `$` at the end, and no bar outside of groups beside these. Leave out what else begins with `(?` but for `(?:`, references such as `\\1`, letters behind a backslash that have no meaning there, and a quantifier behind a quantifier. docs/FAULTS.md has the rest."

abbrev pub unsupported_word : UnsupportedKind → List ℕ
unsupported_word Conditional = codes "Conditional"
unsupported_word Mix = codes "Mix"
unsupported_word MixedEnum = codes "MixedEnum"
unsupported_word NestedEnum = codes "NestedEnum"
unsupported_word Not = codes "Not"
unsupported_word AnyOne = codes "AnyOne"
unsupported_word Names = codes "Names"
unsupported_word Subtract = codes "Subtract"

abbrev pub unsupported_rule : UnsupportedKind → List ℕ
unsupported_rule Conditional = codes "`if`, `then` or `else` stands there (Draft 7, 6.6)."
unsupported_rule Mix = codes "Keywords of several kinds stand without a type, or a format or listed values beside keywords without one, or listed values beside several types."
unsupported_rule MixedEnum = codes "`enum` lists values of several kinds."
unsupported_rule NestedEnum = codes "`enum` lists a value that is a list or an object."
unsupported_rule Not = codes "`not`, alone or beside a type, holds more than a boolean, `{}`, one type with an `enum`, or listed values of one kind."
unsupported_rule AnyOne = codes "One side of a merge has both `anyOf` and `oneOf`."
unsupported_rule Names = codes "The names of a map are bound by more than keywords of texts, or rules on names are merged with properties that the other side names."
unsupported_rule Subtract = codes "In a merge `not` stands beside nothing else, or holds several of `allOf`, `anyOf`, `oneOf` and `not`."

abbrev pub unsupported_change : UnsupportedKind → List ℕ
unsupported_change Conditional = codes "Write the cases as `oneOf`, each with what tells it apart; or leave the condition out, which takes more."
unsupported_change Mix = codes "Write the type; or, of listed values beside several types, `oneOf` of one list a type."
unsupported_change MixedEnum = codes "Write `oneOf` of one list a kind."
unsupported_change NestedEnum = codes "Write it as a schema of its parts."
unsupported_change Not = codes "Say what is admitted instead of what isn't."
unsupported_change AnyOne = codes "Put one of them in a member of `allOf` of its own."
unsupported_change Names = codes "Keep keywords of texts alone under `propertyNames`; write both sides in one schema."
unsupported_change Subtract = codes "Say what is admitted instead; leave one of these under `not`."

-- ---- faults; want of memory is told by no line

abbrev pub rule_of : FaultD → List ℕ
rule_of memory = []
rule_of (malformed path keyword) = codes "The keyword holds what Draft 7 doesn't allow there (JSON Schema Validation, 6, 7, 9 and 10; Core, 4.3 and 8.3)."
rule_of (missing_ref path name) = codes "The reference names neither the root, `#`, nor a definition of the root, `#/definitions/NAME` or `#/$defs/NAME` (Core, 8.3; RFC 6901)."
rule_of (external_ref path name) = codes "The reference doesn't begin with `#`: it names another document, or this one by its own name, and one document is read."
rule_of (unguarded walk) = codes "References lead back to where they began without stepping into a part of the value (Core, 8.3). The steps are the walk round."
rule_of (depth walk) = codes "More steps than DEPTH lead from a definition or the root to a schema of it. The steps are that walk."
rule_of (places path n) = codes "A list by place has fewer schemas than its sizes say, and more places than DEPTH; each place is written out in the item."
rule_of (float path) = codes "The type `number` stands where not all seven types do, or a number isn't whole: in a bound or a size, or anywhere in `enum`, `const` or `default`. Values have whole numbers alone."
rule_of (value_number i path) = codes "A value holds a number that isn't an i64."
rule_of (invalid_value path v) = codes "A value that the schema states isn't read by its type: one of `enum`, or of `not` with an `enum`, or a default, which may also come round to itself."
rule_of (bad_value path v) = codes "A list of texts, `enum` beside the type `string`, has a value that is neither a text nor null."
rule_of (invalid_schema path kind) = invalid_rule kind
rule_of (unsupported path kind) = unsupported_rule kind
rule_of (texts path) = codes "A pattern is plain, but larger than `regex` compiles."

abbrev pub change_of : FaultD → List ℕ
change_of memory = []
change_of (malformed path keyword) = codes "Correct what stands at that keyword. `exclusiveMinimum: true` is Draft 4: tools/bundle turns it."
change_of (missing_ref path name) = codes "Correct the name, or write the definition. Where the reference leads deeper, to an anchor, or has percent signs, tools/bundle brings what it names under `definitions`."
change_of (external_ref path name) = codes "tools/bundle brings files that stand beside the schema, and turns the document's own `$id`. Of what stands on a network keep a copy beside the schema, and name that."
change_of (unguarded walk) = codes "Let one of the references on that walk stand under `properties`, `items` or the like, or name another schema."
change_of (depth walk) = codes "Say a greater DEPTH; 64 serves. Where this is told at 512 too, a merge doesn't end: take away what stands beside the reference, or the reference from `allOf`."
change_of (places path n) = codes "Say a greater DEPTH, or write one schema at `items` for all places, which has no such bound."
change_of (float path) = codes "Write `integer`, if whole numbers are meant, with whole bounds; or `true` in place of the schema, which takes any value. Write `100` for `1e2`."
change_of (value_number i path) = codes "Leave the value out of the list, or write the number as a text."
change_of (invalid_value path v) = codes "Leave the value out of the list, or correct the default. Where null stands for absence, `--null-absent` may take a default that is refused without it."
change_of (bad_value path v) = codes "Leave the value out, as beside that type nothing is lost; or correct the type."
change_of (invalid_schema path kind) = invalid_change kind
change_of (unsupported path kind) = unsupported_change kind
change_of (texts path) = codes "Write smaller counts in the pattern, such as `{0,1000}` for `{0,1000000}`, or `maxLength` in their place."
