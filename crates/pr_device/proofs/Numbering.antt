-- For any delays of devices there are numbers with which the timed trace has them.
use Rattle.std.proofs.Common.{◌≡◌, ℕ, cond, Bool, true, false, ◌||◌, List, [], ◌∷◌, ◌++◌, map, drop, Option, Some, None}
use Rattle.std.proofs.Common.{if◌then◌else◌, refl, sym, ap, subst, ◌∙◌, arith}
use Rattle.pr_serial.specs.declared.Present.{Present}
use Rattle.pr_serial.specs.declared.Item.{Item}
use Rattle.pr_serial.specs.declared.Item.TheVariants as item
use Rattle.pr_serial.specs.Answers.{is_listener}
use Rattle.pr_serial.specs.Bus.{DelayNumbers}
use Rattle.pr_wire.specs.declared.delay.Kind.TheVariants.{At, H, Ye, Ei, F, Dr}
use Rattle.pr_wire.specs.Delays.{delay_of}
use Rattle.pr_wire.specs.Pieces.{IsWithin}
use Rattle.pr_bus.specs.Laws.{AreItems}
use Rattle.pr_bus.specs.WiresState.{state_from}
use Rattle.pr_bus.specs.Timed.{Lines, TimedPrinter, TimedBus, Done, done, listening, dropped_byte, heard_byte, taking}
use Rattle.pr_bus.specs.Timed.{printer_takes, wires}
use Rattle.pr_device.specs.declared.timing.Timing.{Timing}
use Rattle.pr_device.specs.Timing.{IsTiming}
use Rattle.pr_device.specs.Course.{Party}
use Rattle.pr_device.specs.Paired.{Both, MakeCall, MakeByte, StandsFor, StandFor, IsInTime}
use Rattle.pr_device.specs.Numbers.{number_for, second_numbers, numbers_for, device_four, device_five, devices_of}
use Rattle.pr_device.specs.Numbers.{delays_for}
use Rattle.pr_device.specs.PairLaws.{PairsMakeTraces, TimedTracesAreMade, TraceIsMade}
use Rattle.pr_device.proofs.Sharing.{IsParty}
use Rattle.pr_device.proofs.Items.{both-map}
use Rattle.pr_device.proofs.Traces.{before-next}

-- a delay has its number
at-makes : (d : ℕ) → IsWithin d 1 1000 → delay_of At (number_for At d) ≡ d
at-makes d w = omega (arith, w.from, w.to)

h-makes : (d : ℕ) → IsWithin d 1 10000 → delay_of H (number_for H d) ≡ d
h-makes d w = omega (arith, w.from, w.to)

ye-makes : (d : ℕ) → IsWithin d 200 250 → delay_of Ye (number_for Ye d) ≡ d
ye-makes d w = omega (arith, w.from, w.to)

ei-makes : (d : ℕ) → IsWithin d 80 200 → delay_of Ei (number_for Ei d) ≡ d
ei-makes d w = omega (arith, w.from, w.to)

f-makes : (d : ℕ) → IsWithin d 1 80 → delay_of F (number_for F d) ≡ d
f-makes d w = omega (arith, w.from, w.to)

dr-makes : (d : ℕ) → IsWithin d 1 60 → delay_of Dr (number_for Dr d) ≡ d
dr-makes d w = omega (arith, w.from, w.to)

-- a printer has the numbers of items that come
record Has (before xs : List Item) (p : Party) (q : TimedPrinter) : Type 0 where
  device_is : q.device ≡ p.device
  numbers_is : q.numbers ≡ numbers_for p before xs
  timing : IsParty p

-- the numbers of an attention
calls-have : (p : Party) (second : Option ℕ) (listens : Bool) (rest : List ℕ) → IsParty p
    → MakeCall second listens p
    ((number_for At p.timing.attention ∷ (number_for H p.timing.hold ∷ (number_for F p.timing.accept
    ∷ (second_numbers p.timing second ++ (if listens then [] else number_for Dr p.timing.leave ∷ []))))) ++ rest)
calls-have p None true rest t = record {
  attention = at-makes p.timing.attention t.attention;
  hold = h-makes p.timing.hold t.hold;
  accept = f-makes p.timing.accept t.accept;
  second_is = tt;
  leave = λ e. absurd (let j : true ≡ false = e in cc);
}
calls-have p None false rest t = record {
  attention = at-makes p.timing.attention t.attention;
  hold = h-makes p.timing.hold t.hold;
  accept = f-makes p.timing.accept t.accept;
  second_is = tt;
  leave = λ e. dr-makes p.timing.leave t.leave;
}
calls-have p (Some c) true rest t = record {
  attention = at-makes p.timing.attention t.attention;
  hold = h-makes p.timing.hold t.hold;
  accept = f-makes p.timing.accept t.accept;
  second_is = (h-makes p.timing.hold t.hold, f-makes p.timing.accept t.accept);
  leave = λ e. absurd (let j : true ≡ false = e in cc);
}
calls-have p (Some c) false rest t = record {
  attention = at-makes p.timing.attention t.attention;
  hold = h-makes p.timing.hold t.hold;
  accept = f-makes p.timing.accept t.accept;
  second_is = (h-makes p.timing.hold t.hold, f-makes p.timing.accept t.accept);
  leave = λ e. dr-makes p.timing.leave t.leave;
}

-- and of a byte
bytes-have : (p : Party) (eoi : Bool) (rest : List ℕ) → IsParty p
    → MakeByte eoi p ((number_for H p.timing.hold ∷ (number_for Ye p.timing.wait
    ∷ (if eoi then number_for Ei p.timing.answer ∷ (number_for F p.timing.accept ∷ [])
    else number_for F p.timing.accept ∷ []))) ++ rest)
bytes-have p true rest t = record {
  hold = h-makes p.timing.hold t.hold;
  wait = ye-makes p.timing.wait t.wait;
  answer = λ e. ei-makes p.timing.answer t.answer;
  accept = f-makes p.timing.accept t.accept;
}
bytes-have p false rest t = record {
  hold = h-makes p.timing.hold t.hold;
  wait = ye-makes p.timing.wait t.wait;
  answer = λ e. absurd (let j : false ≡ true = e in cc);
  accept = f-makes p.timing.accept t.accept;
}

-- the numbers of a byte
abbrev byte_numbers : Party → Bool → List ℕ
byte_numbers p eoi =
    number_for H p.timing.hold ∷ (number_for Ye p.timing.wait
    ∷ (if eoi then number_for Ei p.timing.answer ∷ (number_for F p.timing.accept ∷ [])
    else number_for F p.timing.accept ∷ []))

-- an item has its numbers
item-has : (before xs : List Item) (x : Item) (p : Party) (q : TimedPrinter) → Has before (x ∷ xs) p q
    → StandsFor before x p q
item-has before xs (item.Attention byte second) p q s = (
  s.device_is,
  subst (λ ns. MakeCall second (is_listener p.device (before ++ item.Attention byte second ∷ [])) p ns)
      (sym s.numbers_is)
      (calls-have p second (is_listener p.device (before ++ item.Attention byte second ∷ []))
      (numbers_for p (before ++ item.Attention byte second ∷ []) xs) s.timing),
)
item-has before xs (item.Sent byte eoi) p q s = (
  s.device_is,
  λ k. subst (λ ns. MakeByte eoi p ns)
      (sym (s.numbers_is ∙ ap (λ b. (if b then byte_numbers p eoi else [])
      ++ numbers_for p (before ++ item.Sent byte eoi ∷ []) xs) k))
      (bytes-have p eoi (numbers_for p (before ++ item.Sent byte eoi ∷ []) xs) s.timing),
)

-- devices and printers after something is done to the printers
both-after : (P Q : Party → TimedPrinter → Type 0) (g : TimedPrinter
    → TimedPrinter) (ps : List Party) (qs : List TimedPrinter) → ((p : Party) (q : TimedPrinter) → P p q → Q p (g q))
    → Both P ps qs → Both Q ps (map g qs)
both-after P Q g [] [] f w = tt
both-after P Q g (p ∷ ps) (q ∷ qs) f (a, w) = (f p q a, both-after P Q g ps qs f w)
both-after P Q g [] (q ∷ qs) f w = absurd w
both-after P Q g (p ∷ ps) [] f w = absurd w

-- a printer after an attention
after-call : (before xs : List Item) (byte : ℕ) (second : Option ℕ) (p : Party) (q : TimedPrinter)
    → Has before (item.Attention byte second ∷ xs) p q
    → Has (before ++ item.Attention byte second ∷ []) xs p
    (cond (is_listener q.device (before ++ item.Attention byte second ∷ [])) (taking (printer_takes second) q)
    (taking 1 (taking (printer_takes second) q)))
after-call before xs byte second p q s =
    by second (is_listener q.device (before ++ item.Attention byte second ∷ []))
    (ap (λ d. is_listener d (before ++ item.Attention byte second ∷ [])) s.device_is) s.numbers_is
  where
    by : (o : Option ℕ) (b : Bool) → b ≡ is_listener p.device (before ++ item.Attention byte second ∷ [])
        → q.numbers ≡ (number_for At p.timing.attention ∷ (number_for H p.timing.hold ∷ (number_for F p.timing.accept
        ∷ (second_numbers p.timing o ++ (if is_listener p.device (before ++ item.Attention byte second ∷ []) then []
        else number_for Dr p.timing.leave ∷ []))))) ++ numbers_for p (before ++ item.Attention byte second ∷ []) xs
        → Has (before ++ item.Attention byte second ∷ []) xs p
        (cond b (taking (printer_takes o) q) (taking 1 (taking (printer_takes o) q)))
    by None true e k = record {
      device_is = s.device_is;
      numbers_is = ap (drop 3) (k
          ∙ ap (λ v. (number_for At p.timing.attention
          ∷ (number_for H p.timing.hold
          ∷ (number_for F p.timing.accept ∷ ([] ++ (if v then [] else number_for Dr p.timing.leave ∷ [])))))
          ++ numbers_for p (before ++ item.Attention byte second ∷ []) xs) (sym e));
      timing = s.timing;
    }
    by None false e k = record {
      device_is = s.device_is;
      numbers_is = ap (λ l. drop 1 (drop 3 l)) (k
          ∙ ap (λ v. (number_for At p.timing.attention
          ∷ (number_for H p.timing.hold
          ∷ (number_for F p.timing.accept ∷ ([] ++ (if v then [] else number_for Dr p.timing.leave ∷ [])))))
          ++ numbers_for p (before ++ item.Attention byte second ∷ []) xs) (sym e));
      timing = s.timing;
    }
    by (Some c) true e k = record {
      device_is = s.device_is;
      numbers_is = ap (drop 5) (k
          ∙ ap (λ v. (number_for At p.timing.attention
          ∷ (number_for H p.timing.hold
          ∷ (number_for F p.timing.accept
          ∷ ((number_for H p.timing.hold ∷ (number_for F p.timing.accept ∷ []))
          ++ (if v then [] else number_for Dr p.timing.leave ∷ [])))))
          ++ numbers_for p (before ++ item.Attention byte second ∷ []) xs) (sym e));
      timing = s.timing;
    }
    by (Some c) false e k = record {
      device_is = s.device_is;
      numbers_is = ap (λ l. drop 1 (drop 5 l)) (k
          ∙ ap (λ v. (number_for At p.timing.attention
          ∷ (number_for H p.timing.hold
          ∷ (number_for F p.timing.accept
          ∷ ((number_for H p.timing.hold ∷ (number_for F p.timing.accept ∷ []))
          ++ (if v then [] else number_for Dr p.timing.leave ∷ [])))))
          ++ numbers_for p (before ++ item.Attention byte second ∷ []) xs) (sym e));
      timing = s.timing;
    }

-- a printer after a byte
after-byte : (before xs : List Item) (byte : ℕ) (eoi : Bool) (p : Party) (q : TimedPrinter)
    → Has before (item.Sent byte eoi ∷ xs) p q
    → Has (before ++ item.Sent byte eoi ∷ []) xs p (cond (is_listener q.device before) (taking (cond eoi 4 3) q) q)
after-byte before xs byte eoi p q s =
    by eoi (is_listener q.device before) (ap (λ d. is_listener d before) s.device_is) s.numbers_is
  where
    by : (o b : Bool) → b ≡ is_listener p.device before
        → q.numbers ≡ (if is_listener p.device before
        then number_for H p.timing.hold
        ∷ (number_for Ye p.timing.wait ∷ (if o then number_for Ei p.timing.answer ∷ (number_for F p.timing.accept ∷ [])
        else number_for F p.timing.accept ∷ []))
        else []) ++ numbers_for p (before ++ item.Sent byte eoi ∷ []) xs
        → Has (before ++ item.Sent byte eoi ∷ []) xs p (cond b (taking (cond o 4 3) q) q)
    by true true e k = record {
      device_is = s.device_is;
      numbers_is = ap (drop 4) (k
          ∙ ap (λ v. (if v then number_for H p.timing.hold
          ∷ (number_for Ye p.timing.wait ∷ (number_for Ei p.timing.answer ∷ (number_for F p.timing.accept ∷ [])))
          else [])
          ++ numbers_for p (before ++ item.Sent byte eoi ∷ []) xs) (sym e));
      timing = s.timing;
    }
    by false true e k = record {
      device_is = s.device_is;
      numbers_is = ap (drop 3) (k
          ∙ ap (λ v. (if v then number_for H p.timing.hold
          ∷ (number_for Ye p.timing.wait ∷ (number_for F p.timing.accept ∷ [])) else [])
          ++ numbers_for p (before ++ item.Sent byte eoi ∷ []) xs) (sym e));
      timing = s.timing;
    }
    by true false e k = record {
      device_is = s.device_is;
      numbers_is = k ∙ ap (λ v. (if v then number_for H p.timing.hold
          ∷ (number_for Ye p.timing.wait ∷ (number_for Ei p.timing.answer ∷ (number_for F p.timing.accept ∷ [])))
          else [])
          ++ numbers_for p (before ++ item.Sent byte eoi ∷ []) xs) (sym e);
      timing = s.timing;
    }
    by false false e k = record {
      device_is = s.device_is;
      numbers_is = k ∙ ap (λ v. (if v then number_for H p.timing.hold
          ∷ (number_for Ye p.timing.wait ∷ (number_for F p.timing.accept ∷ [])) else [])
          ++ numbers_for p (before ++ item.Sent byte eoi ∷ []) xs) (sym e);
      timing = s.timing;
    }

-- a printer that does not listen takes none for a byte
after-none : (before xs : List Item) (byte : ℕ) (eoi : Bool) (ps : List Party) (qs : List TimedPrinter)
    → Both (Has before (item.Sent byte eoi ∷ xs)) ps qs → listening before qs ≡ []
    → Both (Has (before ++ item.Sent byte eoi ∷ []) xs) ps qs
after-none before xs byte eoi [] [] w e = tt
after-none before xs byte eoi (p ∷ ps) (q ∷ qs) (a, w) e =
    by (is_listener q.device before) e (after-byte before xs byte eoi p q a)
    (λ k. after-none before xs byte eoi ps qs w k)
  where
    by : (b : Bool) → cond b (q ∷ []) [] ++ listening before qs ≡ []
        → Has (before ++ item.Sent byte eoi ∷ []) xs p (cond b (taking (cond eoi 4 3) q) q)
        → (listening before qs ≡ [] → Both (Has (before ++ item.Sent byte eoi ∷ []) xs) ps qs)
        → Has (before ++ item.Sent byte eoi ∷ []) xs p q × Both (Has (before ++ item.Sent byte eoi ∷ []) xs) ps qs
    by true k h f = absurd (let j : q ∷ listening before qs ≡ [] = k in cc)
    by false k h f = (h, f k)
after-none before xs byte eoi [] (q ∷ qs) w e = absurd w
after-none before xs byte eoi (p ∷ ps) [] w e = absurd w

-- all printers after an item
after-item : (before : List Item) (now : ℕ) (l : Lines) (computer : List ℕ) (qs : List TimedPrinter) (ps : List Party)
    (x : Item) (xs : List Item) → Both (Has before (x ∷ xs)) ps qs
    → (let d : Done = done (record { before = before; now = now; lines = l; computer = computer; printers = qs }) x in
    Both (Has (before ++ x ∷ []) xs) ps d.wires.printers)
after-item before now l computer [] [] (item.Attention byte second) xs w = tt
after-item before now l computer [] (p ∷ ps) (item.Attention byte second) xs w = absurd w
after-item before now l computer (q ∷ qs) ps (item.Attention byte second) xs w =
    mapped (q ∷ qs) (both-after (Has before (item.Attention byte second ∷ xs))
    (Has (before ++ item.Attention byte second ∷ []) xs)
    (λ (r : TimedPrinter). cond (is_listener r.device (before ++ item.Attention byte second ∷ []))
    (taking (printer_takes second) r) (taking 1 (taking (printer_takes second) r)))
    ps (q ∷ qs) (after-call before xs byte second) w)
  where
    twice : (rs : List TimedPrinter)
        → map (λ (r : TimedPrinter). cond (is_listener r.device (before ++ item.Attention byte second ∷ [])) r
        (taking 1 r)) (map (taking (printer_takes second)) rs)
        ≡ map (λ (r : TimedPrinter). cond (is_listener r.device (before ++ item.Attention byte second ∷ []))
        (taking (printer_takes second) r) (taking 1 (taking (printer_takes second) r))) rs
    twice [] = refl
    twice (r ∷ rs) = ap (λ k. cond (is_listener r.device (before ++ item.Attention byte second ∷ []))
        (taking (printer_takes second) r) (taking 1 (taking (printer_takes second) r)) ∷ k) (twice rs)

    mapped : (rs : List TimedPrinter)
        → Both (Has (before ++ item.Attention byte second ∷ []) xs) ps
        (map (λ (r : TimedPrinter). cond (is_listener r.device (before ++ item.Attention byte second ∷ []))
        (taking (printer_takes second) r) (taking 1 (taking (printer_takes second) r))) rs)
        → Both (Has (before ++ item.Attention byte second ∷ []) xs) ps
        (map (λ (r : TimedPrinter). cond (is_listener r.device (before ++ item.Attention byte second ∷ [])) r
        (taking 1 r)) (map (taking (printer_takes second)) rs))
    mapped rs s = subst (λ k. Both (Has (before ++ item.Attention byte second ∷ []) xs) ps k) (sym (twice rs)) s
after-item before now l computer qs ps (item.Sent byte eoi) xs w = by (listening before qs) refl
  where
    by : (ls : List TimedPrinter) → listening before qs ≡ ls
        → (let b : TimedBus = record { before = before; now = now; lines = l; computer = computer; printers = qs } in
        let d : Done = elim ls [ [] ↦ dropped_byte b (item.Sent byte eoi) | r ∷ rs ↦ heard_byte b byte eoi (r ∷ rs) ] in
        Both (Has (before ++ item.Sent byte eoi ∷ []) xs) ps d.wires.printers)
    by [] e = after-none before xs byte eoi ps qs w e
    by (r ∷ rs) e =
        both-after (Has before (item.Sent byte eoi ∷ xs)) (Has (before ++ item.Sent byte eoi ∷ []) xs)
        (λ (r : TimedPrinter). cond (is_listener r.device before) (taking (cond eoi 4 3) r) r) ps qs
        (after-byte before xs byte eoi) w

-- in all items
all-have : (ps : List Party) (w : TimedBus) (xs : List Item) → Both (Has w.before xs) ps w.printers → StandFor ps w xs
all-have ps w [] s = tt
all-have ps w (x ∷ xs) s =
    let v : TimedBus = (done w x).wires in (
      both-map (Has w.before (x ∷ xs)) (StandsFor w.before x) ps w.printers (item-has w.before xs x) s,
      all-have ps v xs (subst (λ b. Both (Has b xs) ps v.printers)
          (sym (before-next w.before w.now w.lines w.computer w.printers x))
          (after-item w.before w.now w.lines w.computer w.printers ps x xs s)),
    )

-- printers 4 and 5 have their numbers at first
four-has : (four : Timing) (items : List Item) → IsTiming four
    → Has [] items (device_four four) (record { device = 4; numbers = numbers_for (device_four four) [] items })
four-has four items t = record { device_is = refl; numbers_is = refl; timing = t }

five-has : (five : Timing) (items : List Item) → IsTiming five
    → Has [] items (device_five five) (record { device = 5; numbers = numbers_for (device_five five) [] items })
five-has five items t = record { device_is = refl; numbers_is = refl; timing = t }

-- the law of the pair for devices with any delays
pairs-by : TimedTracesAreMade → (a b : Bool) (computer : List ℕ) (four five : Timing) (items : List Item) (end : ℕ)
    → AreItems items → (a || b) ≡ true → IsTiming four → IsTiming five
    → (let present : Present = record { four = a; five = b } in let delays : DelayNumbers =
    delays_for computer four five items in
    IsInTime (state_from present delays items).lines end
    → TraceIsMade present delays (devices_of present four five) items end)
pairs-by law false false computer four five items end i o t u k = absurd (let j : false ≡ true = o in cc)
pairs-by law true false computer four five items end i o t u k =
    let present : Present = record { four = true; five = false } in
    let delays : DelayNumbers = delays_for computer four five items in
    law present delays (device_four four) [] items end i refl (t, tt) (omega arith, tt)
    (all-have (device_four four ∷ []) (wires present delays.computer delays.four delays.five) items
    (four-has four items t, tt)) k
pairs-by law false true computer four five items end i o t u k =
    let present : Present = record { four = false; five = true } in
    let delays : DelayNumbers = delays_for computer four five items in
    law present delays (device_five five) [] items end i refl (u, tt) (omega arith, tt)
    (all-have (device_five five ∷ []) (wires present delays.computer delays.four delays.five) items
    (five-has five items u, tt)) k
pairs-by law true true computer four five items end i o t u k =
    let present : Present = record { four = true; five = true } in
    let delays : DelayNumbers = delays_for computer four five items in
    law present delays (device_four four) (device_five five ∷ []) items end i refl (t, (u, tt))
    (omega arith, (omega arith, tt))
    (all-have (device_four four ∷ (device_five five ∷ [])) (wires present delays.computer delays.four delays.five) items
    (four-has four items t, (five-has five items u, tt))) k

pub pairs-make : TimedTracesAreMade → PairsMakeTraces
pairs-make law present computer four five items end i o t u k =
    pairs-by law present.four present.five computer four five items end i o t u k
