-- The JSON text of a value (RFC 8259), indented, with a line feed at its end.
use Rattle.std.specs.Prelude.{◌≡◌, ◌≤◌, ℕ, List, [], ◌∷◌, ◌++◌, false, Some}
use Rattle.json.specs.Layout.{pretty}
use Rattle.json.specs.Lex.{tokens}
use Rattle.json.specs.Tree.{json_tokens}
use Rattle.serde_json.specs.Data.{Data, depth}
use Rattle.serde_json.specs.Read.{read, max_depth}
use Rattle.serde_json.specs.Written.{outline, has_float, IsInOrder}

-- a line for each item and each member, two spaces deeper for each bracket, and the value's items and members in order; it is read as the value
pub record IsTextOf (text : List ℕ) (d : Data) : Type 0 where
  pub front : List ℕ
  pub ended : text ≡ front ++ 10 ∷ []
  pub indented : front ≡ pretty (tokens front)
  pub order : IsInOrder front d
  pub reads_back : depth d ≤ max_depth → read front ≡ Some d

-- the text of a value without floats, as these have several
abbrev pub text_of : Data → List ℕ
text_of d = pretty (json_tokens (outline d)) ++ 10 ∷ []

abbrev pub TextsAreExact : Type 0
TextsAreExact = (text : List ℕ) (d : Data) → IsTextOf text d → has_float d ≡ false → text ≡ text_of d

abbrev pub TextsDetermineValues : Type 0
TextsDetermineValues = (text : List ℕ) (d e : Data) → IsTextOf text d → IsTextOf text e → depth d ≤ max_depth → depth e ≤ max_depth → d ≡ e
