-- One more turn of a loop that fills a list or an object.
use Rattle.std.proofs.Common.{◌≡◌, ℕ, suc, ◌+◌, ◌<◌, List, [], ◌∷◌, ◌++◌, map, drop, length, get_or, refl, sym, ap, ◌∙◌, append_assoc, String, string_bytes, bytes_eq}
use Rattle.std.specs.declared.alloc.Global.{Global}
use Rattle.std.specs.declared.cmp.Ordering.{Ordering}
use Rattle.std.specs.declared.cmp.Ordering.TheVariants.{Less, Equal, Greater}
use Rattle.std.specs.Ordering.{nat_cmp, is_eq, match_ordering}
use Rattle.std.specs.Cmp.Lexicographic.{slice_cmp}
use Rattle.std.specs.BTreeMap.{insert_entry}
use Rattle.std.specs.String.{string_cmp}
use Rattle.std.proofs.lemmas.Map.Text.{is_eq-slice_cmp}
use Rattle.std.proofs.lemmas.Slice.Eq.{bytes_eq-Decides}
use Rattle.serde_json.specs.declared.value.Value as value'
use Rattle.json_value.specs.Value.{Value, Members, member}
use Rattle.model_defs.specs.Settled.{put, placed}
use Rattle.json_value.specs.View.{kept_view}
use Rattle.value_writing.specs.Seen.{kept_members}

agree : (k l : List ℕ) → slice_cmp nat_cmp k l ≡ Equal → k ≡ l
agree k l e = (bytes_eq-Decides k l).0 (sym (is_eq-slice_cmp k l) ∙ ap is_eq e)

entry_next : (e : String Global × value'.Value) (es : List (String Global × value'.Value)) (k : String Global) (v : value'.Value)
    → kept_members (insert_entry string_cmp es k v) ≡ put (string_bytes k) (kept_view v) (kept_members es) → (o : Ordering) → string_cmp k e.0 ≡ o
    → kept_members (match_ordering o ((k, v) ∷ e ∷ es) ((e.0, v) ∷ es) (e ∷ insert_entry string_cmp es k v))
    ≡ placed o (member (string_bytes k) (kept_view v) (kept_members (e ∷ es))) (member (string_bytes k) (kept_view v) (kept_members es)) (member (string_bytes e.0) (kept_view e.1) (put (string_bytes k) (kept_view v) (kept_members es)))
entry_next e es k v further Less h = refl
entry_next e es k v further Equal h = ap (λ n. member n (kept_view v) (kept_members es)) (sym (agree (string_bytes k) (string_bytes e.0) h))
entry_next e es k v further Greater h = ap (member (string_bytes e.0) (kept_view e.1)) further

-- an entry put into a map is a member put in its place
pub entry_is_put : (es : List (String Global × value'.Value)) (k : String Global) (v : value'.Value) → kept_members (insert_entry string_cmp es k v) ≡ put (string_bytes k) (kept_view v) (kept_members es)
entry_is_put [] k v = refl
entry_is_put (e ∷ es) k v = entry_next e es k v (entry_is_put es k v) (string_cmp k e.0) refl

pub entry_put : (es new : List (String Global × value'.Value)) (k : String Global) (v : value'.Value) (n : List ℕ) → new ≡ insert_entry string_cmp es k v → string_bytes k ≡ n → kept_members new ≡ put n (kept_view v) (kept_members es)
entry_put es new k v n e h = ap kept_members e ∙ entry_is_put es k v ∙ ap (λ m. put m (kept_view v) (kept_members es)) h
