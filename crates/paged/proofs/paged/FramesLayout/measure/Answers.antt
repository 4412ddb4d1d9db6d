use Rattle.std.proofs.Common.{◌≡◌, ◌*◌, ◌/◌, subst, ap₂, arith, rules}
use Rattle.stores.specs.Laws.Tables.{most_fits}
use Rattle.paged.specs.Frames.{Judged, Apt, Awry}
use Rattle.paged.specs.Opened.{most_paged}
use Rattle.paged.specs.Opened.Misfits.{no_frames}
use Rattle.paged.proofs.Checking.{judged_front}
use Rattle.paged.proofs.paged.FramesLayout.measure.Goals as goal

pub returns-then-not-branch : goal.returns-then-not-branch
returns-then-not-branch c =
    let map = c.args.self.now.map.now in
    let n = c.most-capacity.result * c.frames_of-frames.result in
    let k = c.args.words / 64 in
    let low = most_fits _ _ _ _ c.most-capacity.ensures in
    let awry : Awry map n k = subst (λ t. Judged map n k t) c.if-not-branch.true (judged_front map _ n k _ _ (omega (arith, low.2)) (search rules) (omega arith) c.in_ok-apt.ensures) in
    let capacity : c.most-capacity.result ≡ most_paged c.args.width map c.args.marks = search (rules, c.most-capacity.ensures, c.frames_of-frames.ensures) in
    (search rules, no_frames (subst (λ m. Awry map m k) (ap₂ (λ a b. a * b) capacity c.frames_of-frames.ensures) awry))

pub returns : goal.returns
returns c =
    let map = c.args.self.now.map.now in
    let n = c.most-capacity.result * c.frames_of-frames.result in
    let k = c.args.words / 64 in
    let low = most_fits _ _ _ _ c.most-capacity.ensures in
    let fit : Apt map n k = subst (λ t. Judged map n k t) c.if-not-branch.false (judged_front map _ n k _ _ (omega (arith, low.2)) (search rules) (omega arith) c.in_ok-apt.ensures) in
    record {
      wide = c.in_ok-check_width.ensures.0;
      narrow = c.in_ok-check_width.ensures.1;
      whole = search (rules, c.most-capacity.ensures, c.frames_of-frames.ensures);
      apt = subst (λ b. Apt map (c.most-capacity.result * b) k) c.frames_of-frames.ensures fit;
    }
