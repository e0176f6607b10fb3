-- What the theorems on the train graph claim (document 02, P2). Assumes nothing.
use Rattle.std.specs.Prelude.{◌≡◌, ℕ, ◌<◌, List, ◌++◌, map, length, get_or, T}
use Rattle.spec.specs.Lists.{Bytes, all, one, last_or}
use Rattle.spec.specs.Book.{segment_of}
use Rattle.spec.specs.Read.{between}
use Rattle.spec.specs.Instance.{Instance}
use Rattle.spec.specs.Plan.{Plan}
use Rattle.spec.specs.Page.{newline, shown_of}

-- "A place is a path of l, rear first": its rear segment and its front segment
unfoldable pub rear_of : List ℕ → ℕ
rear_of place = get_or (map segment_of place) 0 0

unfoldable pub front_of : List ℕ → ℕ
front_of place = last_or 0 (map segment_of place)

-- "80 bytes and a newline": bytes that can be seen or are blank, then the newline, which stands nowhere else
pub record IsLine (line : Bytes) : Type 0 where
  pub text : Bytes
  pub whole : line ≡ text ++ one newline
  pub wide : length text ≡ 80
  pub plain : T (all (between 32 126) text)

-- "agree on these fields": as many trains, and of each the same is shown, of one plan in interval t and of the other in interval u
pub record SameLine (I : Instance) (p : Plan) (t : ℕ) (J : Instance) (q : Plan) (u : ℕ) : Type 0 where
  pub interval : t ≡ u
  pub trains : I.trains ≡ J.trains
  pub shown : (i : ℕ) → i < I.trains → shown_of I p i t ≡ shown_of J q i u

-- the same of each interval, which are as many
pub record SamePage (I : Instance) (p : Plan) (J : Instance) (q : Plan) : Type 0 where
  pub intervals : I.intervals ≡ J.intervals
  pub lines : (t : ℕ) → t < I.intervals → SameLine I p t J q t
