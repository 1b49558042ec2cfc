-- What a constant finds: the schema without it, and a note.
use Rattle.std.proofs.Common.{◌≡◌, List, [], ◌∷◌, ◌++◌, Bool, true, false, not, Option, Some, None, is_some, option_map, refl, sym, ap, ◌∙◌}
use Rattle.schema_defs.specs.Schema.{Schema}
use Rattle.convert_defs.specs.Row.{Note, Part, Finding, here, widened, const_note, noted, as_it_is_row, made}
use Rattle.type_rows.specs.Line.{line}

pub is_there : {A B : Type 0} (f : A → B) (o : Option A) (b : Bool) → is_some o ≡ not b → b ≡ false → is_some (option_map f o) ≡ true
is_there f None b h e = h ∙ ap not e
is_there f (Some x) b h e = refl

pub constant_found : (b : Bool) (f : Finding) (before ns : List Note) (p : Part) (s t : Schema) → b ≡ true → f ≡ noted ns (as_it_is_row p) → ns ≡ before ++ (here widened const_note ∷ []) → before ≡ [] → p ≡ made s → s ≡ t → Some f ≡ line b (noted (here widened const_note ∷ []) (as_it_is_row (made t)))
constant_found b f before ns p s t fits found more none is same =
    ap Some (
    found
    ∙ ap (λ l. noted l (as_it_is_row p)) (more ∙ ap (λ l. l ++ (here widened const_note ∷ [])) none)
    ∙ ap (λ q. noted (here widened const_note ∷ []) (as_it_is_row q)) (is ∙ ap made same)
    )
    ∙ sym (ap (λ c. line c (noted (here widened const_note ∷ []) (as_it_is_row (made t)))) fits)
