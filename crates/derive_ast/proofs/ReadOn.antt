-- Loops that read one member after the other.
use Rattle.std.proofs.Common.{◌≡◌, ℕ, suc, ◌+◌, ◌<◌, List, [], ◌∷◌, ◌++◌, map, drop, length, get_or, ap, sym, ◌∙◌, append_assoc, arith}
use Rattle.std.proofs.lemmas.List.{map-append}
use Rattle.std.specs.Prelude.{Option}
use Rattle.token_trees.specs.Token.{Name}
use Rattle.syntax_trees.specs.Item.{FieldD}
use Rattle.attr_parts.specs.Values.{DefaultD}
use Rattle.attr_defs.specs.Acts.{SettingD}
use Rattle.attr_defs.specs.Members.{field_diagnostics}
use Rattle.attr_defs.specs.Texts.{Lexing}
use Rattle.container_defs.specs.Model.{fields_told_from}
use Rattle.container_defs.specs.Reading.{field_of, fields_from}
use Rattle.derive_ast.proofs.Loops.{mapped_drop}

-- what is read yet, and what is still to be read: the next is read
pub read_on : {X Y Z : Type 0} (view : X → Y) (f : Z → Y) (done now : List X) (x : X) (z : Z) (left rest all : List Z)
    → map view done ++ map f left ≡ map f all → left ≡ z ∷ rest → now ≡ done ++ x ∷ [] → view x ≡ f z → map view now ++ map f rest ≡ map f all
read_on view f done now x z left rest all h l n e =
    ap (λ xs. map view xs ++ map f rest) n
    ∙ ap (λ ys. ys ++ map f rest) (map-append view done (x ∷ []))
    ∙ append_assoc (map view done) (view x ∷ []) (map f rest)
    ∙ ap (λ y. map view done ++ y ∷ map f rest) e
    ∙ ap (λ zs. map view done ++ map f zs) (sym l)
    ∙ h

-- the next of fields that are read from a place on
pub next_field : (lexing : Lexing) (private : Name) (container : DefaultD) (borrow : Option SettingD) {X : Type 0} (v : X → FieldD) (xs : List X) (i : ℕ) (x : X) → i < length xs → x ≡ get_or xs i x
    → fields_from lexing private container borrow i (map v (drop i xs)) ≡ field_of lexing private container borrow i (v x) ∷ fields_from lexing private container borrow (i + 1) (map v (drop (i + 1) xs))
next_field lexing private container borrow v xs i x h e =
    ap (fields_from lexing private container borrow i) (mapped_drop v xs i x h e)
    ∙ ap (λ n. field_of lexing private container borrow i (v x) ∷ fields_from lexing private container borrow n (map v (drop (i + 1) xs))) (let k : suc i ≡ i + 1 = omega arith in k)

-- what is told of it, and of the others
pub next_field_told : (lexing : Lexing) (borrow : Option SettingD) {X : Type 0} (v : X → FieldD) (xs : List X) (i : ℕ) (x : X) → i < length xs → x ≡ get_or xs i x
    → fields_told_from lexing borrow i (map v (drop i xs)) ≡ field_diagnostics lexing (v x) i borrow ++ fields_told_from lexing borrow (i + 1) (map v (drop (i + 1) xs))
next_field_told lexing borrow v xs i x h e =
    ap (fields_told_from lexing borrow i) (mapped_drop v xs i x h e)
    ∙ ap (λ n. field_diagnostics lexing (v x) i borrow ++ fields_told_from lexing borrow n (map v (drop (i + 1) xs))) (let k : suc i ≡ i + 1 = omega arith in k)
