-- What is said of items, as doc comments.
use Rattle.std.specs.Prelude.{ℕ, List, [], ◌∷◌, string_bytes, bytes_eq, if◌then◌else◌}
use Rattle.module_texts.specs.declared.docs.ItemDoc.{ItemDoc}

pub record Doc : Type 0 where
  pub item : List ℕ
  pub text : List ℕ

abbrev pub doc_view : ItemDoc → Doc
doc_view d = record { item = string_bytes d.item; text = string_bytes d.text }

-- ---- docs, which stand in the order of the items, at most one for an item

abbrev pub own_doc : List Doc → List ℕ → List ℕ
own_doc [] n = []
own_doc (d ∷ ds) n = if bytes_eq d.item n then d.text else []

abbrev pub docs_behind : List Doc → List ℕ → List Doc
docs_behind [] n = []
docs_behind (d ∷ ds) n = if bytes_eq d.item n then ds else d ∷ ds
