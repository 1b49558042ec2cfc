-- What levels of groups that are being copied, the outermost first, come to be.
use Rattle.std.proofs.Common.{◌≡◌, ◌<◌, ◌+◌, ◌*◌, ℕ, List, [], ◌∷◌, ◌++◌, length, map, refl, ap, sym, ◌∙◌, arith, append_assoc, append-nil}
use Rattle.std.specs.Prelude.{Option, Some, None}
use Rattle.std.proofs.lemmas.List.{nil_from_length}
use Rattle.token_trees.specs.declared.copy.Level.{Level}
use Rattle.token_trees.specs.declared.token.Span.{Span}
use Rattle.token_trees.specs.declared.token.TokenTree.{TokenTree}
use Rattle.token_trees.specs.declared.token.TokenTree.TheVariants.{Group as in_group}
use Rattle.token_trees.specs.declared.token.Group.{Group, out-Group}
use Rattle.token_trees.specs.View.{tree, trees, stream}
use Rattle.token_trees.specs.Marked.{chosen, marked, all_marked}
use Rattle.token_trees.specs.Token.{Tok, word, mark, fixed, group, Toks, no_toks, tok, toks_of, placed, all_placed}
use Rattle.token_trees.proofs.Views.{group_of}
use Rattle.token_trees.proofs.Weights.{weight_of, work, work_is, first_weight, group_weight}

mutual
  marked_none : (t : Tok) → marked None t ≡ t
  marked_none (word x s) = refl
  marked_none (mark c j s) = refl
  marked_none (fixed l s) = refl
  marked_none (group d ts s) = ap (λ us. group d us s) (all_marked_none ts)

  all_marked_none : (ts : Toks) → all_marked None ts ≡ ts
  all_marked_none no_toks = refl
  all_marked_none (tok t ts) = ap (λ u. tok u (all_marked None ts)) (marked_none t) ∙ ap (λ us. tok t us) (all_marked_none ts)

mutual
  marked_some : (o : Span) (t : Tok) → marked (Some o) t ≡ placed o t
  marked_some o (word x s) = refl
  marked_some o (mark c j s) = refl
  marked_some o (fixed l s) = refl
  marked_some o (group d ts s) = ap (λ us. group d us o) (all_marked_some o ts)

  all_marked_some : (o : Span) (ts : Toks) → all_marked (Some o) ts ≡ all_placed o ts
  all_marked_some o no_toks = refl
  all_marked_some o (tok t ts) = ap (λ u. tok u (all_marked (Some o) ts)) (marked_some o t) ∙ ap (λ us. tok (placed o t) us) (all_marked_some o ts)

pub none_marked : (ts : List Tok) → map (marked None) ts ≡ ts
none_marked [] = refl
none_marked (t ∷ ts) = ap (λ u. u ∷ map (marked None) ts) (marked_none t) ∙ ap (λ us. t ∷ us) (none_marked ts)

pub some_marked : (o : Span) (ts : List Tok) → map (marked (Some o)) ts ≡ map (placed o) ts
some_marked o [] = refl
some_marked o (t ∷ ts) = ap (λ u. u ∷ map (marked (Some o)) ts) (marked_some o t) ∙ ap (λ us. placed o t ∷ us) (some_marked o ts)

toks_of_marked : (o : Option Span) (ts : List Tok) → all_marked o (toks_of ts) ≡ toks_of (map (marked o) ts)
toks_of_marked o [] = refl
toks_of_marked o (t ∷ ts) = ap (λ us. tok (marked o t) us) (toks_of_marked o ts)

-- the trees round a group, and the group, whose trees are those
abbrev pub around : Option Span → Level → List Tok → List Tok
around o l inner = stream l.copied ++ (group l.delimiter (toks_of inner) l.span ∷ map (marked o) (trees l.left.now))

abbrev pub rebuilt : Option Span → List Level → List Tok → List Tok
rebuilt o [] inner = inner
rebuilt o (l ∷ ls) inner = around o l (rebuilt o ls inner)

rebuilt_last : (o : Option Span) (ls : List Level) (l : Level) (inner : List Tok) → rebuilt o (ls ++ l ∷ []) inner ≡ rebuilt o ls (around o l inner)
rebuilt_last o [] l inner = refl
rebuilt_last o (k ∷ ls) l inner = ap (around o k) (rebuilt_last o ls l inner)

-- copied so far, and left, in the innermost group
abbrev pub Rebuilds : Option Span → List Tok → List Level → List Tok → List TokenTree → Type 0
Rebuilds o whole ls copied left = rebuilt o ls (copied ++ map (marked o) (trees left)) ≡ whole

pub group_opened : (o : Option Span) (whole : List Tok) (ls ms : List Level) (l : Level) (c d : List Tok) (xs inner : List TokenTree) (t : TokenTree) (g : Group)
    → Rebuilds o whole ls c xs → t ≡ in_group g → stream (out-Group g).stream ≡ trees inner → xs ≡ t ∷ l.left.now → stream l.copied ≡ c → l.delimiter ≡ (out-Group g).delimiter
    → l.span ≡ chosen o (out-Group g).span → ms ≡ ls ++ l ∷ [] → d ≡ [] → Rebuilds o whole ms d inner
group_opened o whole ls ms l c d xs inner t g h n p e k m q i f =
    let r = map (marked o) (trees l.left.now) in
    let ts = map (marked o) (trees inner) in
    let made : marked o (tree t) ≡ group l.delimiter (toks_of ts) l.span =
    ap (marked o) (group_of t g inner n p) ∙ ap (λ us. group (out-Group g).delimiter us (chosen o (out-Group g).span)) (toks_of_marked o (trees inner))
    ∙ ap (λ b. group b (toks_of ts) (chosen o (out-Group g).span)) (sym m) ∙ ap (λ s. group l.delimiter (toks_of ts) s) (sym q) in
    ap (λ v. rebuilt o ms (v ++ ts)) f ∙ ap (λ js. rebuilt o js ts) i ∙ rebuilt_last o ls l ts
    ∙ ap (rebuilt o ls) (ap (λ v. v ++ (group l.delimiter (toks_of ts) l.span ∷ r)) k ∙ ap (λ u. c ++ (u ∷ r)) (sym made) ∙ sym (ap (λ ys. c ++ map (marked o) (trees ys)) e)) ∙ h

none_left : (o : Option Span) (c : List Tok) (xs : List TokenTree) → length xs ≡ 0 → c ++ map (marked o) (trees xs) ≡ c
none_left o c xs e = ap (λ ys. c ++ map (marked o) (trees ys)) (nil_from_length xs e) ∙ append-nil c

pub group_closed : (o : Option Span) (whole : List Tok) (ls ms : List Level) (l : Level) (c d : List Tok) (xs : List TokenTree)
    → Rebuilds o whole ms c xs → length xs ≡ 0 → ms ≡ ls ++ l ∷ [] → d ≡ stream l.copied ++ group l.delimiter (toks_of c) l.span ∷ [] → Rebuilds o whole ls d l.left.now
group_closed o whole ls ms l c d xs h e i f =
    let r = map (marked o) (trees l.left.now) in
    ap (rebuilt o ls) (ap (λ v. v ++ r) f ∙ append_assoc (stream l.copied) (group l.delimiter (toks_of c) l.span ∷ []) r)
    ∙ sym (rebuilt_last o ls l c) ∙ sym (ap (λ js. rebuilt o js c) i) ∙ sym (ap (rebuilt o ms) (none_left o c xs e)) ∙ h

-- what is left to copy
abbrev pub copy_work : List Level → List TokenTree → ℕ
copy_work ls left = work (map (λ l. l.left.now) ls) + 2 * weight_of (trees left)

pub opened_less : (ls ms : List Level) (l : Level) (xs inner : List TokenTree) (t : TokenTree) (g : Group) → t ≡ in_group g → stream (out-Group g).stream ≡ trees inner → xs ≡ t ∷ l.left.now → ms ≡ ls ++ l ∷ []
    → copy_work ms inner < copy_work ls xs
opened_less ls ms l xs inner t g n p e i = omega (arith, work_is (λ l. l.left.now) ms ls l i, first_weight xs l.left.now t e, group_weight t g inner n p)

pub closed_less : (ls ms : List Level) (l : Level) (xs : List TokenTree) → ms ≡ ls ++ l ∷ [] → copy_work ls l.left.now < copy_work ms xs
closed_less ls ms l xs i = omega (arith, work_is (λ l. l.left.now) ms ls l i)
