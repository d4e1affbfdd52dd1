-- What is put together of a document, a piece at a time.
use Rattle.std.proofs.Common.{◌≡◌, ℕ, ◌<◌, true, false, List, [], ◌∷◌, ◌++◌, length, Option, Some, None, Ok, refl, sym, ap, ◌∙◌, subst, arith}
use Rattle.std.specs.Prelude.{IfSome}
use Rattle.std.specs.Global.{Vec}
use Rattle.json.specs.Token.{Token, begin_array, key}
use Rattle.json.specs.Json.{parse_map, after_end_array, read_key, value}
use Rattle.json.proofs.Grammar.{left, skip_value-shorter}
use Rattle.serde_json.specs.Data.{Data, array, no_items, Members, object, put}
use Rattle.serde_json.specs.Read.{of_json, converted}
use Rattle.raw_document.specs.declared.key.DocKey.TheVariants as keys
use Rattle.raw_document.specs.declared.raw.RawGroup.{RawGroup}
use Rattle.raw_document.specs.declared.raw.RawReport.{RawReport}
use Rattle.raw_document.specs.declared.raw.RawDocument.{RawDocument}
use Rattle.raw_document.specs.Words.{word}
use Rattle.raw_document.specs.Raw.{raw_view}
use Rattle.raw_document.specs.Forms.{document_at}
use Rattle.raw_reader.specs.Takes.{EachRead, ListRead}
use Rattle.raw_reader.specs.Slots.{DocumentHolds}
use Rattle.raw_reader.specs.Walks.{items_before, Amid, Within}
use Rattle.raw_reader.specs.Pieces.{member_depth, item_depth, MemberIs, ItemsTake, group_read, report_read, Closes, PieceTakes}
use Rattle.raw_reader.specs.Joined.{StandsAt}
use Rattle.raw_reader.specs.declared.pieces.Member.{Member}
use Rattle.raw_reader.specs.declared.pieces.Piece.{Piece}
use Rattle.raw_reader.specs.declared.pieces.Piece.TheVariants as pieces
use Rattle.raw_reader.specs.declared.document.DocumentSlots.{DocumentSlots}
use Rattle.raw_reader.specs.declared.joined.OpenList.{OpenList}
use Rattle.raw_reader.specs.declared.joined.OpenList.TheVariants as lists
use Rattle.raw_reader.proofs.Reading.{converted_some, Amid-start, Amid-end, array_is, listed, object_is, Within-start, Within-more, Within-end}
use Rattle.raw_reader.proofs.Frames.{framed}
use Rattle.raw_reader.proofs.Putting.{put_groups, put_script}

shorter : (depth : ℕ) (old new : List Token) (d : Data) → converted of_json (value depth old) ≡ Some (d, new) → length new < length old
shorter depth old new d e = skip_value-shorter depth old new (ap left (converted_some of_json (value depth old) d new e).1)

-- a member that was read of its key and its value
member_joined : (Before After : Members → Type 0) (start now inside after : List Token) (k : List ℕ) (d : Data) → Within member_depth Before start now → now ≡ key k ∷ inside
    → converted of_json (value member_depth inside) ≡ Some (d, after) → ((found : Members) → Before found → After (put k d found)) → Within member_depth After start after
member_joined Before After start now inside after k d within is read holds =
    let from_key : Within member_depth Before start (key k ∷ inside) = subst (Within member_depth Before start) is within in
    Within-more member_depth Before After start (key k ∷ inside) inside after k d from_key refl read holds (omega arith) (shorter member_depth inside after d read)

pub Begin-joined : (version : ℕ) (slots : DocumentSlots) (start old new more : List Token) → PieceTakes version pieces.Begin old new → StandsAt version slots lists.Before start (old ++ more)
    → StandsAt version slots lists.Closed start (new ++ more)
Begin-joined version slots start old new more piece stands = (new ++ more, sym stands.0 ∙ ap (λ ts. ts ++ more) piece, Within-start member_depth (DocumentHolds version slots) (new ++ more) stands.1)

pub Member-joined : (version : ℕ) (before after : DocumentSlots) (member : Member) (start old new more : List Token)
    → ((k : List ℕ) (d : Data) (found : Members) → MemberIs version member k d → DocumentHolds version before found → DocumentHolds version after (put k d found)) → PieceTakes version (pieces.Member member) old new
    → StandsAt version before lists.Closed start (old ++ more) → StandsAt version after lists.Closed start (new ++ more)
Member-joined version before after member start old new more holds piece stands =
    let d = piece.3.0 in (
      stands.0,
      stands.1,
      member_joined (DocumentHolds version before) (DocumentHolds version after) stands.0 (old ++ more) (piece.1 ++ more) (new ++ more) piece.0 d stands.2 (ap (λ ts. ts ++ more) piece.2) (framed member_depth piece.1 new more d piece.3.1)
          (λ found. holds piece.0 d found piece.3.2),
    )

pub OpenGroups-joined : (version : ℕ) (slots : DocumentSlots) (found : Vec RawGroup) (start old new more : List Token) → found.items ≡ [] → PieceTakes version pieces.OpenGroups old new → StandsAt version slots lists.Closed start (old ++ more)
    → StandsAt version slots (lists.Groups found) start (new ++ more)
OpenGroups-joined version slots found start old new more none piece stands = (
  stands.0,
  new ++ more,
  stands.1,
  subst (Within member_depth (DocumentHolds version slots) stands.0) (ap (λ ts. ts ++ more) piece) stands.2,
  subst (λ xs. Amid item_depth (group_read version) (new ++ more) xs (new ++ more)) (sym none) (Amid-start item_depth (group_read version) (new ++ more)),
)

pub OpenScript-joined : (version : ℕ) (slots : DocumentSlots) (found : Vec RawReport) (start old new more : List Token) → found.items ≡ [] → PieceTakes version pieces.OpenScript old new → StandsAt version slots lists.Closed start (old ++ more)
    → StandsAt version slots (lists.Script found) start (new ++ more)
OpenScript-joined version slots found start old new more none piece stands = (
  stands.0,
  new ++ more,
  stands.1,
  subst (Within member_depth (DocumentHolds version slots) stands.0) (ap (λ ts. ts ++ more) piece) stands.2,
  subst (λ xs. Amid item_depth (report_read version) (new ++ more) xs (new ++ more)) (sym none) (Amid-start item_depth (report_read version) (new ++ more)),
)

pub End-joined : (version : ℕ) (slots : DocumentSlots) (start old new more : List Token) → PieceTakes version pieces.End old new → StandsAt version slots lists.Closed start (old ++ more) → StandsAt version slots lists.Over start (new ++ more)
End-joined version slots start old new more piece stands =
    let over : read_key (old ++ more) ≡ Some (None, new ++ more) = rw (piece.0, piece.1) in
    let whole = Within-end member_depth (DocumentHolds version slots) stands.0 (old ++ more) (new ++ more) stands.2 over in
    (stands.0, stands.1, whole.0, whole.1, whole.2)

-- ---- items of a list

module _ {T : Type 0} (IsRead : Data → T → Type 0) where
  -- the items that are next stand behind those before
  amid_behind : (start : List Token) (before xs all : List T) (old behind more : List Token) → ItemsTake IsRead xs old behind → all ≡ before ++ xs → Amid item_depth IsRead start before (old ++ more) → Amid item_depth IsRead start all (behind ++ more)
  amid_behind start before xs all old behind more take is amid = subst (λ ys. Amid item_depth IsRead start ys (behind ++ more)) (sym is) (take.1 more start before amid)

  pub still_open : (start : List Token) (before xs all : List T) (old behind new more : List Token) → ItemsTake IsRead xs old behind → Closes false behind new → all ≡ before ++ xs → Amid item_depth IsRead start before (old ++ more)
      → Amid item_depth IsRead start all (new ++ more)
  still_open start before xs all old behind new more take closes is amid = subst (λ ts. Amid item_depth IsRead start all (ts ++ more)) (closes.0 ∙ sym closes.1) (amid_behind start before xs all old behind more take is amid)

  -- where the list is closed, its array was read
  pub list_closed : (start : List Token) (before xs all : List T) (old behind new more : List Token) → ItemsTake IsRead xs old behind → Closes true behind new → all ≡ before ++ xs → Amid item_depth IsRead start before (old ++ more)
      → (d : Data) × (converted of_json (value member_depth (begin_array ∷ start)) ≡ Some (d, new ++ more)) × ListRead IsRead d all
  list_closed start before xs all old behind new more take closes is amid =
      let whole = Amid-end item_depth IsRead start all (behind ++ more) (new ++ more) (amid_behind start before xs all old behind more take is amid) (ap (λ ts. after_end_array (ts ++ more)) closes) in (
        array (items_before whole.0 no_items),
        array_is member_depth start (omega arith) ∙ ap (parse_map array) whole.2,
        (items_before whole.0 no_items, refl, subst (λ ds. EachRead IsRead ds all) (sym (listed whole.0)) whole.1),
      )

pub Groups-open : (version : ℕ) (slots : DocumentSlots) (found items all : Vec RawGroup) (start old new more : List Token) → all.items ≡ found.items ++ items.items → PieceTakes version (pieces.Groups items false) old new
    → StandsAt version slots (lists.Groups found) start (old ++ more) → StandsAt version slots (lists.Groups all) start (new ++ more)
Groups-open version slots found items all start old new more is piece stands =
    (stands.0, stands.1, stands.2, stands.3, still_open (group_read version) stands.1 found.items items.items all.items old piece.0 new more piece.1 piece.2 is stands.4)

pub Groups-closed : (version : ℕ) (slots : DocumentSlots) (found items all : Vec RawGroup) (start old new more : List Token) → all.items ≡ found.items ++ items.items → PieceTakes version (pieces.Groups items true) old new
    → StandsAt version slots (lists.Groups found) start (old ++ more) → StandsAt version (record slots { groups = Some all }) lists.Closed start (new ++ more)
Groups-closed version slots found items all start old new more is piece stands =
    let list = list_closed (group_read version) stands.1 found.items items.items all.items old piece.0 new more piece.1 piece.2 is stands.4 in (
      stands.0,
      stands.2,
      member_joined (DocumentHolds version slots) (DocumentHolds version (record slots { groups = Some all })) stands.0 (key (word keys.Groups) ∷ begin_array ∷ stands.1) (begin_array ∷ stands.1) (new ++ more) (word keys.Groups) list.0 stands.3 refl list.1
          (λ members. put_groups version slots members (word keys.Groups) list.0 (Some all) all refl refl list.2),
    )

pub Script-open : (version : ℕ) (slots : DocumentSlots) (found items all : Vec RawReport) (start old new more : List Token) → all.items ≡ found.items ++ items.items → PieceTakes version (pieces.Script items false) old new
    → StandsAt version slots (lists.Script found) start (old ++ more) → StandsAt version slots (lists.Script all) start (new ++ more)
Script-open version slots found items all start old new more is piece stands =
    (stands.0, stands.1, stands.2, stands.3, still_open (report_read version) stands.1 found.items items.items all.items old piece.0 new more piece.1 piece.2 is stands.4)

pub Script-closed : (version : ℕ) (slots : DocumentSlots) (found items all : Vec RawReport) (start old new more : List Token) → all.items ≡ found.items ++ items.items → PieceTakes version (pieces.Script items true) old new
    → StandsAt version slots (lists.Script found) start (old ++ more) → StandsAt version (record slots { script = Some all }) lists.Closed start (new ++ more)
Script-closed version slots found items all start old new more is piece stands =
    let list = list_closed (report_read version) stands.1 found.items items.items all.items old piece.0 new more piece.1 piece.2 is stands.4 in (
      stands.0,
      stands.2,
      member_joined (DocumentHolds version slots) (DocumentHolds version (record slots { script = Some all })) stands.0 (key (word keys.Script) ∷ begin_array ∷ stands.1) (begin_array ∷ stands.1) (new ++ more) (word keys.Script) list.0 stands.3 refl list.1
          (λ members. put_script version slots members (word keys.Script) list.0 (Some all) all refl refl list.2),
    )

-- ---- a step from what is known of the piece, of the list before and of what is after

pub stepped : (version : ℕ) (piece p : Piece) (before after slots : DocumentSlots) (list next l m : OpenList) (start old new more : List Token) → piece ≡ p → list ≡ l → after ≡ slots → next ≡ m
    → (PieceTakes version p old new → StandsAt version before l start (old ++ more) → StandsAt version slots m start (new ++ more)) → PieceTakes version piece old new → StandsAt version before list start (old ++ more)
    → StandsAt version after next start (new ++ more)
stepped version piece p before after slots list next l m start old new more is was slots_is next_is step took stood =
    let took_it = subst (λ x. PieceTakes version x old new) is took in
    let stood_there = subst (λ x. StandsAt version before x start (old ++ more)) was stood in
    subst (λ x. StandsAt version x next start (new ++ more)) (sym slots_is) (subst (λ x. StandsAt version slots x start (new ++ more)) (sym next_is) (step took_it stood_there))

-- ---- the whole document

pub document_joined : (version : ℕ) (slots : DocumentSlots) (list : OpenList) (r : Option RawDocument) → list ≡ lists.Over → IfSome r (λ raw. (found : Members) → DocumentHolds version slots found → document_at (object found) ≡ Ok (raw_view raw))
    → IfSome r (λ raw. (start : List Token) → StandsAt version slots list start [] → (d : Data) × (converted of_json (value 127 start) ≡ Some (d, [])) × (document_at d ≡ Ok (raw_view raw)))
document_joined version slots list None over given = tt
document_joined version slots list (Some raw) over given = λ start at_list.
    let stands = subst (λ l. StandsAt version slots l start []) over at_list in
    (object stands.2, ap (λ ts. converted of_json (value 127 ts)) stands.1 ∙ object_is 127 stands.0 (omega arith) ∙ ap (parse_map object) stands.4, given stands.2 stands.3)
