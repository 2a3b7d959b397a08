-- What printing leaves in the lent bytes, and what it answers (rules 9.2, 9.13 and 10.6).
--     Prints             the text stands in front of the bytes, zeros behind it up to 2,048, beyond them is
--                        what came, and the answer is how many bytes the text has
--     BytesUntouched     nothing is printed: the bytes are as they came, and the answer is 0
--     Askable            a plan can be printed: 64 carriers at most, a distance and a tick for each, and
--                        2,048 bytes for the text
--     PlanPrinting       the answer to a plan, for every input
--     RefusedPrinting    the answer to a refusal, for every input
use Rattle.std.specs.Prelude.{◌≡◌, List, ℕ, ◌≤◌, ◌<◌, length, get_or}
use Rattle.hall.specs.Limits.{carrier_limit}
use Rattle.hall.specs.Left.{filled}
use Rattle.report.specs.Printed.{print_room, plan_text, refused_text}

pub record Prints (text out out' : List ℕ) (r : ℕ) : Type 0 where
  pub bytes : out' ≡ filled text print_room out
  pub size : r ≡ length text

pub record BytesUntouched (out out' : List ℕ) (r : ℕ) : Type 0 where
  pub bytes : out' ≡ out
  pub size : r ≡ 0

pub record Askable (carriers : ℕ) (distances ticks out : List ℕ) : Type 0 where
  pub few : carriers ≤ carrier_limit
  pub distance_each : carriers ≤ length distances
  pub tick_each : carriers ≤ length ticks
  pub room : print_room ≤ length out

pub data PlanPrinting (carriers : ℕ) (distances ticks : List ℕ) (cost : ℕ) (out out' : List ℕ) (r : ℕ)
    : Type 0 where
  whole : Askable carriers distances ticks out
      → Prints (plan_text carriers (λ i. get_or ticks i 0) (λ i. get_or distances i 0) cost) out out' r
      → PlanPrinting carriers distances ticks cost out out' r
  nothing : ¬ Askable carriers distances ticks out
      → BytesUntouched out out' r
      → PlanPrinting carriers distances ticks cost out out' r

pub data RefusedPrinting (number line : ℕ) (out out' : List ℕ) (r : ℕ) : Type 0 where
  whole : print_room ≤ length out
      → Prints (refused_text number line) out out' r
      → RefusedPrinting number line out out' r
  nothing : length out < print_room → BytesUntouched out out' r → RefusedPrinting number line out out' r
