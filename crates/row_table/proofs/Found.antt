-- What a line finds, and what the first of several that fits finds.
use Rattle.std.proofs.Common.{◌≡◌, ℕ, List, ◌++◌, Bool, true, false, ◌&&◌, Option, Some, None, is_some, refl, sym, ap}
use Rattle.std.specs.Prelude.{if◌then◌else◌}
use Rattle.json_value.specs.Value as value
use Rattle.json_value.specs.Value.{Value, text}
use Rattle.enum_defs.specs.Words.{as_text}
use Rattle.convert_defs.specs.Row.{Finding, Note, add_notes}
use Rattle.convert_defs.specs.Table.{finding_or}
use Rattle.type_rows.specs.Line.{line}

none-some : {A : Type 0} {x : A} → None ≡ Some x → ⊥
none-some h = cc

-- a line that finds something is the first that fits
pub taken : (b : Bool) (g f x : Finding) → Some f ≡ line b g → f ≡ (if b then g else x)
taken true g f x h = cc
taken false g f x h = absurd (none-some (sym h))

-- after one that finds nothing the others are asked
pub passed : (b : Bool) (g x : Finding) → None ≡ line b g → (if b then g else x) ≡ x
passed true g x h = absurd (none-some h)
passed false g x h = refl

-- a line of two tests
pub not_both : (a b : Bool) (f : Finding) → b ≡ false → line (a && b) f ≡ None
not_both true b f h = ap (λ c. line c f) h
not_both false b f h = refl

-- a line that fits where something is found
pub found_line : (o : Option Finding) (b : Bool) (ns : List Note) (f : Finding) → Some f ≡ o → true ≡ b → line (is_some o && b) (add_notes ns (finding_or o)) ≡ Some (add_notes ns f)
found_line o b ns f h t = sym (λ i. line (is_some (h i) && t i) (add_notes ns (finding_or (h i))))

pub no_line : (o : Option Finding) (b : Bool) (f : Finding) → None ≡ o → line (is_some o && b) f ≡ None
no_line o b f h = sym (λ i. line (is_some (h i) && b) f)

-- a finding, its notes after others
pub after_others : (g : Finding) (ns all : List Note) → all ≡ ns ++ g.notes → record g { notes = all } ≡ add_notes ns g
after_others g ns all h = λ i. record g { notes = h i }

-- a value that is read as a text is that text
pub text_is : (v : Value) (s : List ℕ) → as_text v ≡ Some s → v ≡ text s
text_is value.null s h = absurd (none-some h)
text_is (value.boolean b) s h = absurd (none-some h)
text_is (value.number z) s h = absurd (none-some h)
text_is value.fraction s h = absurd (none-some h)
text_is (text t) s h = cc
text_is (value.list xs) s h = absurd (none-some h)
text_is (value.object ms) s h = absurd (none-some h)
