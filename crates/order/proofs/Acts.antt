-- What each accepted event does to a Sound nucleus, before the front of ready is started: a Step, in which nobody comes or goes,
-- for create a Swap of one place, and for end a family is dropped.
use Rattle.std.specs.Prelude.{◌≡◌}
use Rattle.rules.specs.Model.{Model}
use Rattle.rules.specs.Rules.{act, refusal}
use Rattle.rules.specs.Consistent.{Fits, ListensToLive}
use Rattle.rules.specs.declared.Event.{Event}
use Rattle.rules.specs.declared.Event.TheVariants.{Create, Send, Receive, Reply, End, WaitClock, SliceEnd, Tick, WaitDevice, Interrupt}
use Rattle.order.specs.Sound.{Sound, Kin}
use Rattle.order.proofs.Create.{creates}
use Rattle.order.specs.Send.{sends}
use Rattle.order.specs.Receive.{receives}
use Rattle.order.specs.Reply.{replies}
use Rattle.order.proofs.EndFamily.{family_ends}
use Rattle.order.specs.Clock.{rests, slice_ends, ticks}
use Rattle.order.specs.Devices.{attends, interrupts}
use Rattle.order.specs.KinKept.{kin_kept}
use Rattle.order.proofs.KinCreate.{kin_create}
use Rattle.order.specs.Accepted.{Accepted, accepted}
use Rattle.order.specs.Acts.{Done}

done : (e : Event) (m : Model) → Sound m → Kin m → Fits e → Accepted e m → Done e m
done Create m S K f a = creates m S a
done (Send d w) m S K f a = sends m S a.0 d.0 w f.0 a.1 a.2
done (Receive n) m S K f a = receives m S a.0 n.0 a.1 a.2 a.3
done (Reply t w) m S K f a = replies m S a.0 t.0 w f.0 a.3
done (End t) m S K f a = family_ends m S K t.0 a
done WaitClock m S K f a = rests m S a
done SliceEnd m S K f a = slice_ends m S
done Tick m S K f a = ticks m S
done (WaitDevice i) m S K f a = attends m S a.0 i.0 a.1
done (Interrupt s w) m S K f a = interrupts m S s w f.0

-- an accepted event, by its code
pub does : (e : Event) (m : Model) → Sound m → Kin m → Fits e → refusal e m ≡ 0 → Done e m
does e m S K f z = done e m S K f (accepted e m z)

pub acts_sound : (e : Event) (m : Model) → Done e m → Sound (act e m)
acts_sound Create m D = D.sound
acts_sound (Send d w) m D = D.kept.sound
acts_sound (Receive n) m D = D.kept.sound
acts_sound (Reply t w) m D = D.kept.sound
acts_sound (End t) m D = D.sound
acts_sound WaitClock m D = D.kept.sound
acts_sound SliceEnd m D = D.kept.sound
acts_sound Tick m D = D.kept.sound
acts_sound (WaitDevice i) m D = D.kept.sound
acts_sound (Interrupt s w) m D = D.kept.sound

pub acts_listens : (e : Event) (m : Model) → Done e m → ListensToLive m → ListensToLive (act e m)
acts_listens Create m D = D.listens
acts_listens (Send d w) m D = D.kept.listens
acts_listens (Receive n) m D = D.kept.listens
acts_listens (Reply t w) m D = D.kept.listens
acts_listens (End t) m D = D.listens
acts_listens WaitClock m D = D.kept.listens
acts_listens SliceEnd m D = D.kept.listens
acts_listens Tick m D = D.kept.listens
acts_listens (WaitDevice i) m D = D.kept.listens
acts_listens (Interrupt s w) m D = D.kept.listens

pub acts_kin : (e : Event) (m : Model) → Sound m → Kin m → Accepted e m → Done e m → Kin (act e m)
acts_kin Create m S K a D = kin_create m S K a
acts_kin (Send d w) m S K a D = kin_kept m _ D.kept K
acts_kin (Receive n) m S K a D = kin_kept m _ D.kept K
acts_kin (Reply t w) m S K a D = kin_kept m _ D.kept K
acts_kin (End t) m S K a D = D.kin
acts_kin WaitClock m S K a D = kin_kept m _ D.kept K
acts_kin SliceEnd m S K a D = kin_kept m _ D.kept K
acts_kin Tick m S K a D = kin_kept m _ D.kept K
acts_kin (WaitDevice i) m S K a D = kin_kept m _ D.kept K
acts_kin (Interrupt s w) m S K a D = kin_kept m _ D.kept K
