use Rattle.std.proofs.Common.{refl}
use Rattle.tm_shapes.proofs.Levels.{is_frame}
use Rattle.tm_shapes.proofs.Levels.{no_frame}
use Rattle.tm_shapes.proofs.Levels.{not_frame}
use Rattle.tm_shapes.proofs.flow.top_frame.Goals as goal

pub returns-in_err-item : goal.returns-in_err-item
returns-in_err-item c = λ part l. rw c.from_residual.ensures (no_frame _ _ _ c.in_err-item.ensures.found l.frames)

pub returns-in-Frame : goal.returns-in-Frame
returns-in-Frame c = λ part l.
    let w = is_frame _ _ part.frames c.in_ok-item.field-0 c.in-Frame.frame c.in_ok-item.ensures.found
    (cc (c.in_ok-item.item-is, c.in-Frame.is)) l.frames in
    (w.0, w.1, refl, record { frames = w.2; captures = l.captures; count = l.count; escapes = l.escapes })

pub returns-in_default : goal.returns-in_default
returns-in_default c = λ part l.
    not_frame _ _ _ c.in_ok-item.field-0 c.in_ok-item.ensures.found
    (λ f e. c.in_default.not-Frame f (cc (c.in_ok-item.item-is, e))) l.frames
