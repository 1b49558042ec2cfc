-- What is searched for a plain pattern: its pieces in order and, where lookaheads stand right behind a `^` at its front or lookbehinds
-- right before a `$` at its end, what stands in these. `^` holds at the start of a text alone and `$` at its end alone, as no
-- pattern has the flag by which they hold at lines (22.2.2.4 of ECMA-262). So where `^` stands before the rest of a pattern, a
-- match of it begins at the start, and a lookahead there asks whether what stands in it matches from the start on: whether a
-- search for this behind `^` finds it. Where `$` stands behind the rest, a match ends at the end, and a lookbehind there asks
-- whether what stands in it matches up to the end. No reference reads a group, so what a lookaround matches counts for nothing
-- else (22.2.2.3 and 22.2.2.4). A bar outside of groups would divide such a pattern, and the ends with it, so none stands there.
use Rattle.std.specs.Prelude.{ℕ, zero, suc, ◌+◌, ◌-◌, ◌==◌, ◌&&◌, ◌||◌, not, nat_lt, Bool, true, false, List, [], ◌∷◌, ◌++◌, length, take, map, chars, codes, encode_utf8, string_bytes, Option, Some, None, is_some, unwrap_or, option_map, if◌then◌else◌}
use Rattle.std.specs.List.{flat_map}
use Rattle.std.specs.Option.{option_or}
use Rattle.plain_patterns.specs.declared.state.Kind.{Kind}
use Rattle.plain_patterns.specs.declared.state.Kind.TheVariants.{Opening, Closing, Bar, Assertion, Item, Repetition}
use Rattle.plain_patterns.specs.declared.state.State.{State}
use Rattle.plain_patterns.specs.declared.searches.Look.{Look}
use Rattle.plain_patterns.specs.declared.searches.Searches.{Searches}
use Rattle.plain_patterns.specs.Plain.{Text, Found, ◌>>=◌, after_head, is_at, piece}

-- ---- the order of pieces

-- How many groups are open, whether what stands before may be repeated, and whether a bar may stand outside of groups. An item
-- may be repeated, and a group that was closed, once.
abbrev pub start : Bool → State
start bars = record { depth = 0; repeatable = false; bars = bars }

abbrev pub reached : State → ℕ → Bool → State
reached s depth repeatable = record { depth = depth; repeatable = repeatable; bars = s.bars }

abbrev pub state_after : State → Kind → Option State
state_after s Opening = Some (reached s (s.depth + 1) false)
state_after s Closing = if s.depth == 0 then None else Some (reached s (s.depth - 1) true)
state_after s Bar = if s.depth == 0 && not s.bars then None else Some (reached s s.depth false)
state_after s Assertion = Some (reached s s.depth false)
state_after s Item = Some (reached s s.depth true)
state_after s Repetition = if s.repeatable then Some (reached s s.depth false) else None

-- ---- lookarounds

-- what follows the character
abbrev pub after : ℕ → Text → Option Text
after c [] = None
after c (d ∷ t) = if d == c then Some t else None

-- after `=` or `!`: whether a lookaround is negated
abbrev pub polarity : Text → Option (Bool × Text)
polarity [] = None
polarity (c ∷ t) = if c == 61 then Some (false, t) else if c == 33 then Some (true, t) else None

abbrev pub direction : Bool → Text → Option Text
direction back t = if back then after 60 t else Some t

-- after the beginning of a lookahead or, where `back` is set, of a lookbehind: whether it is negated, and what follows
abbrev pub look : Bool → Text → Option (Bool × Text)
look back t = after 40 t >>= λ a. after 63 a >>= λ b. direction back b >>= λ d. polarity d

-- Outside of groups pieces end at a lookbehind, and at a parenthesis that closes none of theirs.
abbrev pub is_end : State → Text → Bool
is_end s t = s.depth == 0 && (is_at 41 t || is_some (look true t))

-- ---- pieces in order

-- of a piece, where it may stand: what it writes, what follows, and the state there
abbrev pub Step : Type 0
Step = List ℕ × Text × State

abbrev pub stepped : Option Found → State → Option Step
stepped found s = found >>= λ p. option_map {U = Step} (λ next. (p.1, p.2, next)) (state_after s p.0)

-- what pieces write that stand in order, and what is left where they end; the number bounds how many there are
unfoldable pub read_from : Bool → ℕ → Text → State → Option (List ℕ × Text)
read_from u n [] s = if s.depth == 0 then Some ([], []) else None
read_from u zero (c ∷ t) s = None
read_from u (suc n) (c ∷ t) s =
    if is_end s (c ∷ t) then Some ([], c ∷ t)
    else stepped (piece u c t) s >>= λ q. after_head q.0 (read_from u n q.1 q.2)

abbrev pub sequence : Bool → Bool → Text → Option (List ℕ × Text)
sequence u bars t = read_from u (length t) t (start bars)

-- ---- the whole

-- A text has the pattern where a search for `own` finds something in it, and one for each source beside it just where that isn't
-- negated.
pub record Searched : Type 0 where
  pub own : List ℕ
  pub beside : List (List ℕ × Bool)

abbrev pub alone : List ℕ → Searched
alone written = record { own = written; beside = [] }

abbrev pub joined : Searched → Searched → Searched
joined a b = record { own = a.own ++ b.own; beside = a.beside ++ b.beside }

-- what stands in a lookahead, behind the start, or in a lookbehind, before the end
abbrev pub look_head : Bool → List ℕ
look_head back = if back then codes "(?:" else codes "^(?:"

abbrev pub look_tail : Bool → List ℕ
look_tail back = if back then codes ")$" else codes ")"

abbrev pub look_source : Bool → List ℕ → List ℕ
look_source back written = look_head back ++ (written ++ look_tail back)

abbrev pub closed : Bool → List ℕ × Text → Option (List ℕ × Text)
closed back p = option_map {U = List ℕ × Text} (λ t. (look_source back p.0, t)) (after 41 p.1)

-- what stands in a lookaround, as it is searched for, and what follows the parenthesis that closes it
abbrev pub inside : Bool → Bool → Text → Option (List ℕ × Text)
inside u back t = sequence u true t >>= λ p. closed back p

abbrev pub Looks : Type 0
Looks = List (List ℕ × Bool) × Text

-- lookaheads or lookbehinds one after another, and what follows; the number bounds how many there are
unfoldable pub looks : Bool → Bool → ℕ → Text → Option Looks
looks u back zero t = Some ([], t)
looks u back (suc n) t =
    unwrap_or (option_map (λ l. inside u back l.1 >>= λ p. option_map {U = Looks} (λ q. ((p.0, l.0) ∷ q.0, q.1)) (looks u back n p.1)) (look back t)) (Some ([], t))

abbrev pub looks_of : Bool → Bool → Text → Option Looks
looks_of u back t = looks u back (length t) t

abbrev pub Front : Type 0
Front = Searched × Text

-- `^` at the front and the lookaheads behind it, or nothing
abbrev pub front_by : Bool → Option Text → Text → Option Front
front_by u None t = Some (alone [], t)
front_by u (Some rest) t = option_map {U = Front} (λ q. (record { own = 94 ∷ []; beside = q.0 }, q.1)) (looks_of u false rest)

abbrev pub front : Bool → Text → Option Front
front u t = front_by u (after 94 t) t

abbrev pub is_only : ℕ → Text → Bool
is_only c [] = false
is_only c (d ∷ []) = d == c
is_only c (d ∷ e ∷ t) = false

abbrev pub before_end : Looks → Option Searched
before_end q = if is_only 36 q.1 then Some (record { own = 36 ∷ []; beside = q.0 }) else None

-- lookbehinds and the `$` behind them, or nothing
abbrev pub rear : Bool → Text → Option Searched
rear u [] = Some (alone [])
rear u (c ∷ t) = looks_of u true (c ∷ t) >>= λ q. before_end q

-- what stands between the two ends
abbrev pub between : Bool → Front → Option Searched
between u f = sequence u false f.1 >>= λ p. option_map (λ b. joined f.0 (joined (alone p.0) b)) (rear u p.1)

abbrev pub with_ends : Bool → Text → Option Searched
with_ends u t = front u t >>= λ f. between u f

-- a pattern that pieces write up to its end
abbrev pub ordinary : Bool → Text → Option Searched
ordinary u t = sequence u true t >>= λ p. if length p.1 == 0 then Some (alone p.0) else None

abbrev pub read_in : Bool → Text → Option Searched
read_in u t = option_or (ordinary u t) (with_ends u t)

-- What `regex` is to search for where a pattern is plain; nothing for another. What is read outside of unicode mode and in it
-- means the same in both.
unfoldable pub rewritten : List ℕ → Option Searched
rewritten pattern = option_or (read_in false (chars pattern)) (read_in true (chars pattern))

abbrev pub is_plain : List ℕ → Bool
is_plain pattern = is_some (rewritten pattern)

-- what a call of this crate answers, as it is defined here
abbrev pub look_seen : Look → List ℕ × Bool
look_seen l = (string_bytes l.source, l.negated)

abbrev pub seen : Searches → Searched
seen s = record { own = string_bytes s.own; beside = map look_seen s.beside.items }

-- ---- where reading stops

-- what is left of a text from the first piece on that can't stand where it does; the number bounds how many pieces there are
unfoldable pub unread : Bool → ℕ → Text → State → Text
unread u n [] s = []
unread u zero (c ∷ t) s = c ∷ t
unread u (suc n) (c ∷ t) s = unwrap_or (option_map (λ q. unread u n q.1 q.2) (stepped (piece u c t) s)) (c ∷ t)

abbrev pub unread_pieces : Bool → Bool → Text → Text
unread_pieces u bars t = unread u (length t) t (start bars)

-- what is left where lookaheads stand first: within one of them, or of what stands behind them
unfoldable pub unread_looks : Bool → ℕ → Text → Text
unread_looks u zero t = unread_pieces u false t
unread_looks u (suc n) t =
    unwrap_or (option_map (λ l. unwrap_or (option_map (λ r. unread_looks u n r) (after 41 (unread_pieces u true l.1))) (unread_pieces u true l.1)) (look false t)) (unread_pieces u false t)

-- what follows a `^` at the front, where it is a lookahead
abbrev pub looks_behind : Text → Option Text
looks_behind t = after 94 t >>= λ r. if is_some (look false r) then Some r else None

abbrev pub unread_in : Bool → Text → Text
unread_in u t = unwrap_or (option_map (λ r. unread_looks u (length r) r) (looks_behind t)) (unread_pieces u true t)

-- the shorter of two, or the first
abbrev pub shorter : Text → Text → Text
shorter a b = if nat_lt (length b) (length a) then b else a

-- what is left in the mode that reads further
abbrev pub unread_of : Text → Text
unread_of t = shorter (unread_in false t) (unread_in true t)

-- how many characters were read, and the next eight
abbrev pub stop_at : Text → ℕ × List ℕ
stop_at t = (length t - length (unread_of t), flat_map encode_utf8 (take 8 (unread_of t)))

-- Where reading stops of a pattern that isn't plain. Where nothing is left, a group is open.
abbrev pub stop_of : List ℕ → Option (ℕ × List ℕ)
stop_of pattern = if is_plain pattern then None else Some (stop_at (chars pattern))
