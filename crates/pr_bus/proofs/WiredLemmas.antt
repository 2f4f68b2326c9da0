-- One item more on the wires.
use Rattle.std.proofs.Common.{◌≡◌, ℕ, zero, suc, ◌+◌, ◌<◌, ◌≤◌, ◌^◌, Bool, true, false, cond, ◌&&◌, ◌||◌, Option, Some, None, List, [], ◌∷◌, ◌++◌, length, drop, take, append_assoc, append-nil, length-append, refl, sym, subst, ap, ◌∙◌, arith, Result, Ok, Err, OnOk, OnErr, is_err}
use Rattle.std.specs.Prelude.{vec_capacity}
use Rattle.std.specs.List.{flat_map}
use Rattle.std.proofs.lemmas.List.{take-append-le}
use Rattle.std.proofs.Math.Seq.{take-length}
use Rattle.pr_serial.specs.declared.Present.{Present}
use Rattle.pr_serial.specs.declared.Item.{Item}
use Rattle.pr_serial.specs.declared.Item.TheVariants.{Attention, Sent}
use Rattle.pr_serial.specs.Bus.{DelayNumbers}
use Rattle.pr_page.specs.Before.{with_before}
use Rattle.pr_serial.specs.Heard.{is_present, inputs_at, heard_by}
use Rattle.pr_serial.specs.HeardSinceMark.{items_before, IsReached}
use Rattle.pr_serial.specs.Laws.{HeardOfOneMore, InputsOfAnItem}
use Rattle.pr_page.specs.declared.input.Input.{Input}
use Rattle.pr_wire.specs.declared.Edge.{Edge}
use Rattle.pr_wire.specs.Table.{IsAllowed}
use Rattle.pr_receiver.specs.Given.{inputs_with}
use Rattle.pr_receiver.specs.Laws.{LawfulIsAllowed}
use Rattle.pr_receiver.specs.Taken.{device_of, number_taken}
use Rattle.pr_bus.specs.declared.port.WiredPort.{WiredPort}
use Rattle.pr_bus.specs.declared.log.Log.{Log}
use Rattle.pr_bus.specs.declared.talker.Talker.{Talker}
use Rattle.pr_bus.specs.declared.wires.DelayOffsets.{DelayOffsets}
use Rattle.pr_bus.specs.declared.wires.Wires.TheInside.{Inside}
use Rattle.pr_bus.specs.Timed.{TimedBus, wires, done, item_edges, trace_from}
use Rattle.pr_bus.specs.Talk.{state_of, IsTuned, IsSameTalker}
use Rattle.pr_bus.specs.Laws.{IsItem, AreItems, TimedTracesSpell, TimedTracesAreBounded, ItemsKeepTheirShares, WiresAreHeard}
use Rattle.pr_bus.specs.Sums.{time_bound, edge_share}
use Rattle.pr_bus.specs.PortState.{Hears, IsSamePort, HasRoom, MayHear}
use Rattle.pr_bus.specs.WiresState.{state_from, trace_until}
use Rattle.pr_bus.specs.Wired.{numbers_of, AreHearing, IsWired}
use Rattle.pr_bus.proofs.PortLemmas.{hears-same}
use Rattle.pr_bus.proofs.EdgeCount.{edge-bound-small}
use Rattle.pr_bus.proofs.Shares.{after-more, trace-more}
use Rattle.pr_bus.proofs.Sooner.{after-soon, bound-small}

-- a clause on Ok where there was no error, and one on Err where there was
pub ok-of : {A E : Type 0} {P : Type 0} → (r : Result A E) → is_err r ≡ false → OnOk r P → P
ok-of (Ok x) h p = p
ok-of (Err e) h p = absurd (let j : true ≡ false = h in cc)

-- a clause on Err where there was an error
pub err-of : {A E : Type 0} {P : Type 0} → (r : Result A E) → is_err r ≡ true → OnErr r P → P
err-of (Ok x) h p = absurd (let j : false ≡ true = h in cc)
err-of (Err e) h p = p

-- one item more keeps the bus's conditions
are-more : (xs : List Item) (x : Item) → AreItems xs → IsItem x → AreItems (xs ++ x ∷ [])
are-more [] x a h = (h, tt)
are-more (y ∷ xs) x a h = (a.0, are-more xs x a.1 h)

-- the time of fewer than 2^32 items leaves room for more
pub time-small : (present : Present) (d : DelayNumbers) (items : List Item) (t : Talker) → AreItems items → state_of items t ≡ state_from present d items → length items < 2 ^ 32 → t.time < 2 ^ 60
time-small present d items t a s l =
    let e : t.time ≡ (state_from present d items).now = ap (λ (w : TimedBus). w.now) s in
    let b : (state_from present d items).now ≤ 0 + time_bound items = after-soon (wires present d.computer d.four d.five) items a in
    omega (arith, e, b, bound-small items, l)

-- the talker's parties keep their numbers
pub numbers-same : (b : DelayOffsets) (t u : Talker) → IsSameTalker t u → numbers_of b t ≡ numbers_of b u
numbers-same b t u s =
    ap (λ v. record { computer = drop b.computer v; four = drop b.four t.four.choices.numbers; five = drop b.five t.five.choices.numbers }) (sym s.numbers)
    ∙ ap (λ v. record { computer = drop b.computer u.computer.numbers; four = drop b.four v; five = drop b.five t.five.choices.numbers }) (sym s.four.numbers)
    ∙ ap (λ v. record { computer = drop b.computer u.computer.numbers; four = drop b.four u.four.choices.numbers; five = drop b.five v }) (sym s.five.numbers)

-- one item more leaves the part before the mark
until-same : (present : Present) (d : DelayNumbers) (mark : Option ℕ) (items : List Item) (x : Item) → IsReached mark items → trace_until present d mark (items ++ x ∷ []) ≡ trace_until present d mark items
until-same present d None items x w = refl
until-same present d (Some n) items x w = rw take-append-le refl

-- the mark is still not past the items
reached-more : (mark : Option ℕ) (items : List Item) (x : Item) → IsReached mark items → IsReached mark (items ++ x ∷ [])
reached-more None items x w = tt
reached-more (Some n) items x w = omega (arith, w, length-append items (x ∷ []))

-- the laws of traces on which the ears rest
pub record TraceLaws : Type 0 where
  pub spell : TimedTracesSpell
  pub lawful : LawfulIsAllowed

-- the timed trace is allowed
pub trace-allowed : TraceLaws → (present : Present) (d : DelayNumbers) (items : List Item) → AreItems items → IsAllowed (trace_from present d items)
trace-allowed laws present d items a = let s = laws.spell present d.computer d.four d.five items a in laws.lawful (trace_from present d items) (s.0, s.1)

-- what an ear does with edges that come after a trace
abbrev pub Listens : ℕ → WiredPort → List Edge → WiredPort → Type 0
Listens device old es new = (there : Bool) (forgotten trace : List Edge) → IsAllowed (trace ++ es) → Hears device there forgotten trace old → Hears device there forgotten (trace ++ es) new

-- a printer after one item more
port-more : TraceLaws → (present : Present) (d : DelayNumbers) (mark : Option ℕ) (items : List Item) (x : Item) (es : List Edge) (device : ℕ) (there : Bool) (old grown new : WiredPort) → IsItem x → AreItems items → IsReached mark items
    → es ≡ item_edges (state_from present d items) x → IsSamePort old grown → Listens device grown es new
    → Hears device there (trace_until present d mark items) (trace_from present d items) old
    → Hears device there (trace_until present d mark (items ++ x ∷ [])) (trace_from present d (items ++ x ∷ [])) new
port-more laws present d mark items x es device there old grown new i a w e s f h =
    let whole : trace_from present d (items ++ x ∷ []) ≡ trace_from present d items ++ es = trace-more present d items x ∙ ap (λ l. trace_from present d items ++ l) (sym e) in
    subst (λ l. Hears device there l (trace_from present d (items ++ x ∷ [])) new) (sym (until-same present d mark items x w))
    (subst (λ l. Hears device there (trace_until present d mark items) l new) (sym whole)
    (f there (trace_until present d mark items) (trace_from present d items) (subst IsAllowed whole (trace-allowed laws present d (items ++ x ∷ []) (are-more items x a i)))
    (hears-same device there (trace_until present d mark items) (trace_from present d items) old grown s h)))

-- the wires after one item more
pub record IsMore (present : Present) (d : DelayNumbers) (mark : Option ℕ) (items : List Item) (x : Item) (log : Log) (u : Talker) : Type 0 where
  pub items_are : AreItems (items ++ x ∷ [])
  pub within : IsReached mark (items ++ x ∷ [])
  pub trace_is : trace_until present d mark (items ++ x ∷ []) ++ log.trace.items ≡ trace_from present d (items ++ x ∷ [])
  pub tuned : IsTuned (items ++ x ∷ []) u
  pub state : state_of (items ++ x ∷ []) u ≡ state_from present d (items ++ x ∷ [])
  pub ports : AreHearing present d mark (items ++ x ∷ []) log

-- one item more, by the numbers that the talker showed before it
one-more : TraceLaws → (present : Present) (d : DelayNumbers) (mark : Option ℕ) (items : List Item) (x : Item) (t u : Talker) (old grown log : Log) (es : List Edge) → IsItem x → AreItems items → IsReached mark items
    → trace_until present d mark items ++ old.trace.items ≡ trace_from present d items → AreHearing present d mark items old → state_of items t ≡ state_from present d items
    → log.trace.items ≡ old.trace.items ++ es → IsSamePort old.four grown.four → IsSamePort old.five grown.five → Listens 4 grown.four es log.four → Listens 5 grown.five es log.five
    → es ≡ item_edges (state_of items t) x → state_of (items ++ x ∷ []) u ≡ (done (state_of items t) x).wires → IsTuned (items ++ x ∷ []) u
    → IsMore present d mark items x log u
one-more laws present d mark items x t u old grown log es h a w o ports s n s4 s5 l4 l5 e k i =
    let edges : es ≡ item_edges (state_from present d items) x = e ∙ ap (λ (v : TimedBus). item_edges v x) s in
    record {
      items_are = are-more items x a h;
      within = reached-more mark items x w;
      trace_is =
          ap (λ l. l ++ log.trace.items) (until-same present d mark items x w)
          ∙ ap (λ l. trace_until present d mark items ++ l) n
          ∙ sym (append_assoc (trace_until present d mark items) old.trace.items es)
          ∙ ap (λ l. l ++ es) o
          ∙ ap (λ l. trace_from present d items ++ l) edges
          ∙ sym (trace-more present d items x);
      tuned = i;
      state = k ∙ ap (λ (v : TimedBus). (done v x).wires) s ∙ sym (after-more (wires present d.computer d.four d.five) items x);
      ports = record {
        four = port-more laws present d mark items x es 4 present.four old.four grown.four log.four h a w edges s4 l4 ports.four;
        five = port-more laws present d mark items x es 5 present.five old.five grown.five log.five h a w edges s5 l5 ports.five;
      };
    }

-- what is left of the trace where all of it was forgotten
pub until-all : (present : Present) (d : DelayNumbers) (items : List Item) → trace_until present d (Some (length items)) items ≡ trace_from present d items
until-all present d items = ap (trace_from present d) (take-length items)

-- the bus on wires after one item more
pub wired-after : TraceLaws → (w : Inside) (grown log : Log) (u : Talker) (x : Item) (es : List Edge) → IsWired w → w.failed ≡ false → IsItem x → IsSameTalker w.talker u
    → log.items.items ≡ w.log.items.items ++ x ∷ [] → log.trace.items ≡ w.log.trace.items ++ es
    → IsSamePort w.log.four grown.four → IsSamePort w.log.five grown.five → Listens 4 grown.four es log.four → Listens 5 grown.five es log.five
    → ((before : List Item) → IsTuned before w.talker → es ≡ item_edges (state_of before w.talker) x)
    → ((before : List Item) → IsTuned before w.talker → state_of (before ++ x ∷ []) u ≡ (done (state_of before w.talker) x).wires)
    → ((before : List Item) → IsTuned before w.talker → IsTuned (before ++ x ∷ []) u)
    → IsWired (record w { log = log; time = u.time; talker = u })
wired-after laws w grown log u x es h f i same items trace s4 s5 l4 l5 e k n =
    let at = h.at f in
    let old = w.log.items.items in
    let more : IsMore w.present (numbers_of w.offsets u) w.mark old x log u =
    subst (λ (d : DelayNumbers). IsMore w.present d w.mark old x log u) (numbers-same w.offsets w.talker u same)
    (one-more laws w.present (numbers_of w.offsets w.talker) w.mark old x w.talker u w.log grown log es i h.items h.within h.trace h.ports at.state trace s4 s5 l4 l5
    (e old at.tuned) (k old at.tuned) (n old at.tuned)) in
    let d = numbers_of w.offsets u in
    record {
      items = subst AreItems (sym items) more.items_are;
      within = subst (λ l. IsReached w.mark l) (sym items) more.within;
      trace = subst (λ l. trace_until w.present d w.mark l ++ log.trace.items ≡ trace_from w.present d l) (sym items) more.trace_is;
      time = subst (λ l. u.time ≡ (state_from w.present d l).now) (sym items) (ap (λ (v : TimedBus). v.now) more.state);
      four = same.four.present ∙ h.four;
      five = same.five.present ∙ h.five;
      ports = subst (λ l. AreHearing w.present d w.mark l log) (sym items) more.ports;
      at = λ _. record {
        tuned = subst (λ l. IsTuned l u) (sym items) more.tuned;
        state = subst (λ l. state_of l u ≡ state_from w.present d l) (sym items) more.state;
      };
    }

-- at most 44 edges come of an item
share-small : (x : Item) → edge_share x ≤ 44
share-small (Sent b eoi) = omega arith
share-small (Attention first second) = omega arith

-- a receiver can count the edges of one item more
taken-small : TimedTracesAreBounded → ItemsKeepTheirShares → (present : Present) (d : DelayNumbers) (items : List Item) (x : Item) (es forgotten : List Edge) (device : ℕ) (there : Bool) (old grown : WiredPort) → AreItems items → IsItem x → length items < 2 ^ 32
    → es ≡ item_edges (state_from present d items) x → IsSamePort old grown → Hears device there forgotten (trace_from present d items) old → number_taken grown.receiver + length es < 2 ^ 63
taken-small bounded shares present d items x es forgotten device there old grown a i l e s h =
    let count : number_taken grown.receiver ≡ number_taken old.receiver = ap number_taken s.receiver in
    let added : length (trace_from present d (items ++ x ∷ [])) ≡ length (trace_from present d items ++ item_edges (state_from present d items) x) = ap {A = List Edge} (λ m. length m) (trace-more present d items x) in
    let edges : length es ≡ length (item_edges (state_from present d items) x) = ap {A = List Edge} (λ m. length m) e in
    omega (arith, count, h.count, (bounded present d items a).1, edge-bound-small items, l, added, length-append (trace_from present d items) (item_edges (state_from present d items) x), (shares present d items x a i).1, share-small x, edges)

-- both receivers can
pub ports-small : TimedTracesAreBounded → ItemsKeepTheirShares → (w : Inside) (x : Item) (es : List Edge) (grown : Log) → IsWired w → w.failed ≡ false → IsItem x → length w.log.items.items < 2 ^ 32
    → ((before : List Item) → IsTuned before w.talker → es ≡ item_edges (state_of before w.talker) x) → IsSamePort w.log.four grown.four → IsSamePort w.log.five grown.five
    → (number_taken grown.four.receiver + length es < 2 ^ 63) × (number_taken grown.five.receiver + length es < 2 ^ 63)
ports-small bounded shares w x es grown h f i l e s4 s5 =
    let at = h.at f in
    let d = numbers_of w.offsets w.talker in
    let items = w.log.items.items in
    let edges : es ≡ item_edges (state_from w.present d items) x = e items at.tuned ∙ ap (λ (v : TimedBus). item_edges v x) at.state in (
      taken-small bounded shares w.present d items x es (trace_until w.present d w.mark items) 4 w.present.four w.log.four grown.four h.items i l edges s4 h.ports.four,
      taken-small bounded shares w.present d items x es (trace_until w.present d w.mark items) 5 w.present.five w.log.five grown.five h.items i l edges s5 h.ports.five,
    )

-- the devices of the printers
pub present-four : (present : Present) → is_present present 4 ≡ present.four
present-four present = by present.four present.five
  where
    by : (f g : Bool) → ((f && true) || (g && false)) ≡ f
    by true g = refl
    by false true = refl
    by false false = refl

-- the same of device 5
pub present-five : (present : Present) → is_present present 5 ≡ present.five
present-five present = by present.four present.five
  where
    by : (f g : Bool) → ((f && false) || (g && true)) ≡ g
    by true true = refl
    by true false = refl
    by false true = refl
    by false false = refl

-- the items before a mark keep the bus's conditions
are-before : (mark : Option ℕ) (items : List Item) → AreItems items → AreItems (items_before mark items)
are-before None items a = tt
are-before (Some n) items a = are-taken n items a
  where
    are-taken : (n : ℕ) (items : List Item) → AreItems items → AreItems (take n items)
    are-taken zero items a = tt
    are-taken (suc n) [] a = tt
    are-taken (suc n) (x ∷ xs) a = (a.0, are-taken n xs a.1)

-- what came of the forgotten edges
heard-until : WiresAreHeard → (present : Present) (d : DelayNumbers) (mark : Option ℕ) (items : List Item) (device : ℕ) → AreItems items → is_present present device ≡ true
    → inputs_with device (trace_until present d mark items) ≡ heard_by present device (items_before mark items)
heard-until law present d None items device a p = sym (ap (λ v. cond v [] []) p)
heard-until law present d (Some n) items device a p = law present d device (take n items) (are-before (Some n) items a) p

-- the laws on which the ears' room rests
pub record RoomLaws : Type 0 where
  pub traces : TraceLaws
  pub wires : WiresAreHeard
  pub item : HeardOfOneMore
  pub few : InputsOfAnItem

-- a printer may hear the edges of one item more, since they give at most two inputs
may-more : RoomLaws → (present : Present) (d : DelayNumbers) (mark : Option ℕ) (items : List Item) (x : Item) (es : List Edge) (device : ℕ) (there : Bool) (old grown : WiredPort) → IsItem x → AreItems items → is_present present device ≡ there
    → es ≡ item_edges (state_from present d items) x → IsSamePort old grown → HasRoom grown → Hears device there (trace_until present d mark items) (trace_from present d items) old → grown.present ≡ true → MayHear es grown
may-more laws present d mark items x es device there old grown i a p e s room h t =
    let yes : there ≡ true = sym h.present_is ∙ sym s.present ∙ t in
    let forgotten = trace_until present d mark items in
    let trace = trace_from present d items in
    let k = (hears-same device there forgotten trace old grown s h).hears yes in
    let is : device_of grown.receiver ≡ device = ap device_of s.receiver ∙ h.device_is in
    let whole : trace_from present d (items ++ x ∷ []) ≡ trace ++ es = trace-more present d items x ∙ ap (λ l. trace ++ l) (sym e) in
    let more : inputs_with device (trace ++ es) ≡ heard_by present device items ++ inputs_at device items x =
    ap (inputs_with device) (sym whole) ∙ laws.wires present d device (items ++ x ∷ []) (are-more items x a i) (p ∙ yes) ∙ laws.item present device items x ∙ ap (λ v. heard_by present device items ++ cond v (inputs_at device items x) []) (p ∙ yes) in
    let since : inputs_with device forgotten ++ grown.inputs.items ≡ heard_by present device items =
    subst (λ n. inputs_with n forgotten ++ grown.inputs.items ≡ inputs_with n trace) is k.inputs ∙ laws.wires present d device items a (p ∙ yes) in
    let fits : length (inputs_with device (trace ++ es)) ≤ length (inputs_with device forgotten) + vec_capacity grown.inputs =
    omega (
      arith,
      room t,
      grown.inputs.ok.0,
      laws.few device items x,
      ap {A = List Input} (λ l. length l) more,
      length-append (heard_by present device items) (inputs_at device items x),
      ap {A = List Input} (λ l. length l) since,
      length-append (inputs_with device forgotten) grown.inputs.items,
    ) in (
      forgotten,
      trace,
      record {
        hears = k;
        allowed = subst IsAllowed whole (trace-allowed laws.traces present d (items ++ x ∷ []) (are-more items x a i));
        room = subst (λ n. length (inputs_with n (trace ++ es)) ≤ length (inputs_with n forgotten) + vec_capacity grown.inputs) (sym is) fits;
      },
    )

-- both printers may
pub ports-may : RoomLaws → (w : Inside) (x : Item) (es : List Edge) (grown : Log) → IsWired w → w.failed ≡ false → IsItem x → ((before : List Item) → IsTuned before w.talker → es ≡ item_edges (state_of before w.talker) x)
    → IsSamePort w.log.four grown.four → IsSamePort w.log.five grown.five → HasRoom grown.four → HasRoom grown.five
    → (grown.four.present ≡ true → MayHear es grown.four) × (grown.five.present ≡ true → MayHear es grown.five)
ports-may laws w x es grown h f i e s4 s5 r4 r5 =
    let at = h.at f in
    let d = numbers_of w.offsets w.talker in
    let items = w.log.items.items in
    let edges : es ≡ item_edges (state_from w.present d items) x = e items at.tuned ∙ ap (λ (v : TimedBus). item_edges v x) at.state in (
      may-more laws w.present d w.mark items x es 4 w.present.four w.log.four grown.four i h.items (present-four w.present) edges s4 r4 h.ports.four,
      may-more laws w.present d w.mark items x es 5 w.present.five w.log.five grown.five i h.items (present-five w.present) edges s5 r5 h.ports.five,
    )

-- a printer keeps what it heard since the mark
pub heard-since : WiresAreHeard → (present : Present) (d : DelayNumbers) (mark : Option ℕ) (items : List Item) (device : ℕ) (there : Bool) (port : WiredPort) → AreItems items → is_present present device ≡ there
    → Hears device there (trace_until present d mark items) (trace_from present d items) port → heard_by present device (items_before mark items) ++ port.inputs.items ≡ heard_by present device items
heard-since law present d mark items device true port a p h =
    let k = h.hears refl in
    ap (λ l. l ++ port.inputs.items) (sym (heard-until law present d mark items device a p) ∙ ap (λ n. inputs_with n (trace_until present d mark items)) (sym h.device_is))
    ∙ k.inputs ∙ ap (λ n. inputs_with n (trace_from present d items)) h.device_is ∙ law present d device items a p
heard-since law present d mark items device false port a p h =
    ap (λ l. heard_by present device (items_before mark items) ++ l) (h.nothing refl) ∙ append-nil (heard_by present device (items_before mark items))
    ∙ absent (items_before mark items) ∙ sym (absent items)
  where
    absent : (xs : List Item) → heard_by present device xs ≡ []
    absent xs = ap (λ v. cond v (flat_map (λ p. inputs_at device p.0 p.1) (with_before [] xs)) []) p

-- the bus on wires after all that came was forgotten
pub wired-forgotten : (w : Inside) (log : Log) (n : ℕ) → IsWired w → n ≡ length log.items.items → log.items.items ≡ w.log.items.items → log.trace.items ≡ []
    → ((there : Bool) (forgotten trace : List Edge) → Hears 4 there forgotten trace w.log.four → Hears 4 there trace trace log.four)
    → ((there : Bool) (forgotten trace : List Edge) → Hears 5 there forgotten trace w.log.five → Hears 5 there trace trace log.five)
    → IsWired (record w { log = log; mark = Some n })
wired-forgotten w log n h e i t f4 f5 =
    let d = numbers_of w.offsets w.talker in
    let items = w.log.items.items in
    let count : n ≡ length items = e ∙ ap {A = List Item} (λ l. length l) i in
    let until : trace_until w.present d (Some n) items ≡ trace_from w.present d items = ap (λ k. trace_until w.present d (Some k) items) count ∙ until-all w.present d items in
    record {
      items = subst AreItems (sym i) h.items;
      within = omega (arith, e);
      trace = subst (λ l. trace_until w.present d (Some n) l ++ log.trace.items ≡ trace_from w.present d l) (sym i) (ap (λ l. trace_until w.present d (Some n) items ++ l) t ∙ append-nil (trace_until w.present d (Some n) items) ∙ until);
      time = subst (λ l. w.time ≡ (state_from w.present d l).now) (sym i) h.time;
      four = h.four;
      five = h.five;
      ports = subst (λ l. AreHearing w.present d (Some n) l log) (sym i) (record {
        four = subst (λ l. Hears 4 w.present.four l (trace_from w.present d items) log.four) (sym until) (f4 w.present.four (trace_until w.present d w.mark items) (trace_from w.present d items) h.ports.four);
        five = subst (λ l. Hears 5 w.present.five l (trace_from w.present d items) log.five) (sym until) (f5 w.present.five (trace_until w.present d w.mark items) (trace_from w.present d items) h.ports.five);
      });
      at = λ f. let k = h.at f in record {
        tuned = subst (λ l. IsTuned l w.talker) (sym i) k.tuned;
        state = subst (λ l. state_of l w.talker ≡ state_from w.present d l) (sym i) k.state;
      };
    }

-- the bus on wires that has failed
pub wired-failed : (w : Inside) (log : Log) (u : Talker) → IsWired w → IsSameTalker w.talker u → log.items.items ≡ w.log.items.items → log.trace.items ≡ w.log.trace.items → IsSamePort w.log.four log.four → IsSamePort w.log.five log.five
    → IsWired (record w { log = log; talker = u; failed = true })
wired-failed w log u h same i t s4 s5 =
    let d = numbers_of w.offsets w.talker in
    let items = w.log.items.items in
    let moved : numbers_of w.offsets w.talker ≡ numbers_of w.offsets u = numbers-same w.offsets w.talker u same in
    record {
      items = subst AreItems (sym i) h.items;
      within = subst (λ l. IsReached w.mark l) (sym i) h.within;
      trace = subst (λ l. trace_until w.present (numbers_of w.offsets u) w.mark l ++ log.trace.items ≡ trace_from w.present (numbers_of w.offsets u) l) (sym i)
          (subst (λ (v : DelayNumbers). trace_until w.present v w.mark items ++ log.trace.items ≡ trace_from w.present v items) moved (ap (λ l. trace_until w.present d w.mark items ++ l) t ∙ h.trace));
      time = subst (λ l. w.time ≡ (state_from w.present (numbers_of w.offsets u) l).now) (sym i) (subst (λ (v : DelayNumbers). w.time ≡ (state_from w.present v items).now) moved h.time);
      four = same.four.present ∙ h.four;
      five = same.five.present ∙ h.five;
      ports = subst (λ l. AreHearing w.present (numbers_of w.offsets u) w.mark l log) (sym i) (subst (λ (v : DelayNumbers). AreHearing w.present v w.mark items log) moved (record {
        four = hears-same 4 w.present.four (trace_until w.present d w.mark items) (trace_from w.present d items) w.log.four log.four s4 h.ports.four;
        five = hears-same 5 w.present.five (trace_until w.present d w.mark items) (trace_from w.present d items) w.log.five log.five s5 h.ports.five;
      }));
      at = λ f. absurd (let j : true ≡ false = f in cc);
    }

-- a bus that had failed before
pub wired-still : (w : Inside) → IsWired w → IsWired (record w { failed = true })
wired-still w h = record { items = h.items; within = h.within; trace = h.trace; time = h.time; four = h.four; five = h.five; ports = h.ports; at = λ f. absurd (let j : true ≡ false = f in cc) }

-- an ear is the ear that it was
pub same-port : (port : WiredPort) → IsSamePort port port
same-port port = record { present = refl; receiver = refl; inputs = refl }
