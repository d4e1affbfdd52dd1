-- What slots of a document hold once a member is put among those that were read.
use Rattle.std.proofs.Common.{◌≡◌, ℕ, List, [], ◌∷◌, Option, Some, Ok, refl}
use Rattle.std.specs.Borrow.{Bor}
use Rattle.std.specs.Global.{Vec}
use Rattle.serde_json.specs.Data.{Data, Members, put}
use Rattle.raw_document.specs.declared.key.DocKey.TheVariants as keys
use Rattle.raw_document.specs.declared.raw.RawLink.{RawLink}
use Rattle.raw_document.specs.declared.raw.RawGroup.{RawGroup}
use Rattle.raw_document.specs.declared.raw.RawReport.{RawReport}
use Rattle.raw_document.specs.declared.raw.RawClosing.{RawClosing}
use Rattle.raw_document.specs.Words.{word}
use Rattle.raw_document.specs.Reading.{each_view}
use Rattle.raw_document.specs.Shape.{whole, text, list_of, is_one_of}
use Rattle.raw_document.specs.Raw.{name_view, link_view, group_view, report_view, closing_view}
use Rattle.raw_document.specs.Forms.{link_at, group_at, report_at, closing_at}
use Rattle.raw_reader.specs.Takes.{ListRead}
use Rattle.raw_reader.specs.Slots.{number_view, DocumentHolds}
use Rattle.raw_reader.specs.declared.document.DocumentSlots.{DocumentSlots}
use Rattle.raw_reader.proofs.Filling.{filled, kept, only}
use Rattle.raw_reader.proofs.Lists.{list_is}

pub put_version : (version : ℕ) (s : DocumentSlots) (found : Members) (k : List ℕ) (d : Data) (slot : Option ℕ) (x : ℕ) → k ≡ word keys.Version → slot ≡ Some x → whole d ≡ Ok x → DocumentHolds version s found → DocumentHolds version (record s { version = slot }) (put k d found)
unfolding word is_one_of
put_version version s found k d slot x is has is_read h = (
  filled keys.Version number_view whole found k d slot x is has is_read,
  kept keys.Top keys.Version number_view whole found k d s.top is refl h.1,
  kept keys.Links keys.Version (each_view link_view) (list_of (link_at version)) found k d s.links is refl h.2,
  kept keys.Groups keys.Version (each_view group_view) (list_of (group_at version)) found k d s.groups is refl h.3,
  kept keys.Reporters keys.Version (each_view name_view) (list_of text) found k d s.reporters is refl h.4,
  kept keys.Script keys.Version (each_view report_view) (list_of (report_at version)) found k d s.script is refl h.5,
  kept keys.Closings keys.Version (each_view closing_view) (list_of closing_at) found k d s.closings is refl h.6,
  only (keys.Version ∷ keys.Top ∷ keys.Links ∷ keys.Groups ∷ keys.Reporters ∷ keys.Script ∷ []) (keys.Closings ∷ []) found k d (rw is refl) h.7,
)

pub put_top : (version : ℕ) (s : DocumentSlots) (found : Members) (k : List ℕ) (d : Data) (slot : Option ℕ) (x : ℕ) → k ≡ word keys.Top → slot ≡ Some x → whole d ≡ Ok x → DocumentHolds version s found → DocumentHolds version (record s { top = slot }) (put k d found)
unfolding word is_one_of
put_top version s found k d slot x is has is_read h = (
  kept keys.Version keys.Top number_view whole found k d s.version is refl h.0,
  filled keys.Top number_view whole found k d slot x is has is_read,
  kept keys.Links keys.Top (each_view link_view) (list_of (link_at version)) found k d s.links is refl h.2,
  kept keys.Groups keys.Top (each_view group_view) (list_of (group_at version)) found k d s.groups is refl h.3,
  kept keys.Reporters keys.Top (each_view name_view) (list_of text) found k d s.reporters is refl h.4,
  kept keys.Script keys.Top (each_view report_view) (list_of (report_at version)) found k d s.script is refl h.5,
  kept keys.Closings keys.Top (each_view closing_view) (list_of closing_at) found k d s.closings is refl h.6,
  only (keys.Version ∷ keys.Top ∷ keys.Links ∷ keys.Groups ∷ keys.Reporters ∷ keys.Script ∷ []) (keys.Closings ∷ []) found k d (rw is refl) h.7,
)

pub put_links : (version : ℕ) (s : DocumentSlots) (found : Members) (k : List ℕ) (d : Data) (slot : Option (Vec RawLink)) (x : Vec RawLink) → k ≡ word keys.Links → slot ≡ Some x → ListRead (λ d y. link_at version d ≡ Ok (link_view y)) d x.items → DocumentHolds version s found → DocumentHolds version (record s { links = slot }) (put k d found)
unfolding word is_one_of
put_links version s found k d slot x is has is_read h = (
  kept keys.Version keys.Links number_view whole found k d s.version is refl h.0,
  kept keys.Top keys.Links number_view whole found k d s.top is refl h.1,
  filled keys.Links (each_view link_view) (list_of (link_at version)) found k d slot x is has (list_is link_view (link_at version) (λ d y. link_at version d ≡ Ok (link_view y)) (λ d y r. r) d x.items is_read),
  kept keys.Groups keys.Links (each_view group_view) (list_of (group_at version)) found k d s.groups is refl h.3,
  kept keys.Reporters keys.Links (each_view name_view) (list_of text) found k d s.reporters is refl h.4,
  kept keys.Script keys.Links (each_view report_view) (list_of (report_at version)) found k d s.script is refl h.5,
  kept keys.Closings keys.Links (each_view closing_view) (list_of closing_at) found k d s.closings is refl h.6,
  only (keys.Version ∷ keys.Top ∷ keys.Links ∷ keys.Groups ∷ keys.Reporters ∷ keys.Script ∷ []) (keys.Closings ∷ []) found k d (rw is refl) h.7,
)

pub put_groups : (version : ℕ) (s : DocumentSlots) (found : Members) (k : List ℕ) (d : Data) (slot : Option (Vec RawGroup)) (x : Vec RawGroup) → k ≡ word keys.Groups → slot ≡ Some x → ListRead (λ d y. group_at version d ≡ Ok (group_view y)) d x.items → DocumentHolds version s found → DocumentHolds version (record s { groups = slot }) (put k d found)
unfolding word is_one_of
put_groups version s found k d slot x is has is_read h = (
  kept keys.Version keys.Groups number_view whole found k d s.version is refl h.0,
  kept keys.Top keys.Groups number_view whole found k d s.top is refl h.1,
  kept keys.Links keys.Groups (each_view link_view) (list_of (link_at version)) found k d s.links is refl h.2,
  filled keys.Groups (each_view group_view) (list_of (group_at version)) found k d slot x is has (list_is group_view (group_at version) (λ d y. group_at version d ≡ Ok (group_view y)) (λ d y r. r) d x.items is_read),
  kept keys.Reporters keys.Groups (each_view name_view) (list_of text) found k d s.reporters is refl h.4,
  kept keys.Script keys.Groups (each_view report_view) (list_of (report_at version)) found k d s.script is refl h.5,
  kept keys.Closings keys.Groups (each_view closing_view) (list_of closing_at) found k d s.closings is refl h.6,
  only (keys.Version ∷ keys.Top ∷ keys.Links ∷ keys.Groups ∷ keys.Reporters ∷ keys.Script ∷ []) (keys.Closings ∷ []) found k d (rw is refl) h.7,
)

pub put_reporters : (version : ℕ) (s : DocumentSlots) (found : Members) (k : List ℕ) (d : Data) (slot : Option (Vec (Bor (List ℕ)))) (x : Vec (Bor (List ℕ))) → k ≡ word keys.Reporters → slot ≡ Some x → ListRead (λ d y. text d ≡ Ok y.now) d x.items → DocumentHolds version s found → DocumentHolds version (record s { reporters = slot }) (put k d found)
unfolding word is_one_of
put_reporters version s found k d slot x is has is_read h = (
  kept keys.Version keys.Reporters number_view whole found k d s.version is refl h.0,
  kept keys.Top keys.Reporters number_view whole found k d s.top is refl h.1,
  kept keys.Links keys.Reporters (each_view link_view) (list_of (link_at version)) found k d s.links is refl h.2,
  kept keys.Groups keys.Reporters (each_view group_view) (list_of (group_at version)) found k d s.groups is refl h.3,
  filled keys.Reporters (each_view name_view) (list_of text) found k d slot x is has (list_is name_view text (λ d y. text d ≡ Ok y.now) (λ d y r. r) d x.items is_read),
  kept keys.Script keys.Reporters (each_view report_view) (list_of (report_at version)) found k d s.script is refl h.5,
  kept keys.Closings keys.Reporters (each_view closing_view) (list_of closing_at) found k d s.closings is refl h.6,
  only (keys.Version ∷ keys.Top ∷ keys.Links ∷ keys.Groups ∷ keys.Reporters ∷ keys.Script ∷ []) (keys.Closings ∷ []) found k d (rw is refl) h.7,
)

pub put_script : (version : ℕ) (s : DocumentSlots) (found : Members) (k : List ℕ) (d : Data) (slot : Option (Vec RawReport)) (x : Vec RawReport) → k ≡ word keys.Script → slot ≡ Some x → ListRead (λ d y. report_at version d ≡ Ok (report_view y)) d x.items → DocumentHolds version s found → DocumentHolds version (record s { script = slot }) (put k d found)
unfolding word is_one_of
put_script version s found k d slot x is has is_read h = (
  kept keys.Version keys.Script number_view whole found k d s.version is refl h.0,
  kept keys.Top keys.Script number_view whole found k d s.top is refl h.1,
  kept keys.Links keys.Script (each_view link_view) (list_of (link_at version)) found k d s.links is refl h.2,
  kept keys.Groups keys.Script (each_view group_view) (list_of (group_at version)) found k d s.groups is refl h.3,
  kept keys.Reporters keys.Script (each_view name_view) (list_of text) found k d s.reporters is refl h.4,
  filled keys.Script (each_view report_view) (list_of (report_at version)) found k d slot x is has (list_is report_view (report_at version) (λ d y. report_at version d ≡ Ok (report_view y)) (λ d y r. r) d x.items is_read),
  kept keys.Closings keys.Script (each_view closing_view) (list_of closing_at) found k d s.closings is refl h.6,
  only (keys.Version ∷ keys.Top ∷ keys.Links ∷ keys.Groups ∷ keys.Reporters ∷ keys.Script ∷ []) (keys.Closings ∷ []) found k d (rw is refl) h.7,
)

pub put_closings : (version : ℕ) (s : DocumentSlots) (found : Members) (k : List ℕ) (d : Data) (slot : Option (Vec RawClosing)) (x : Vec RawClosing) → k ≡ word keys.Closings → slot ≡ Some x → ListRead (λ d y. closing_at d ≡ Ok (closing_view y)) d x.items → DocumentHolds version s found → DocumentHolds version (record s { closings = slot }) (put k d found)
unfolding word is_one_of
put_closings version s found k d slot x is has is_read h = (
  kept keys.Version keys.Closings number_view whole found k d s.version is refl h.0,
  kept keys.Top keys.Closings number_view whole found k d s.top is refl h.1,
  kept keys.Links keys.Closings (each_view link_view) (list_of (link_at version)) found k d s.links is refl h.2,
  kept keys.Groups keys.Closings (each_view group_view) (list_of (group_at version)) found k d s.groups is refl h.3,
  kept keys.Reporters keys.Closings (each_view name_view) (list_of text) found k d s.reporters is refl h.4,
  kept keys.Script keys.Closings (each_view report_view) (list_of (report_at version)) found k d s.script is refl h.5,
  filled keys.Closings (each_view closing_view) (list_of closing_at) found k d slot x is has (list_is closing_view closing_at (λ d y. closing_at d ≡ Ok (closing_view y)) (λ d y r. r) d x.items is_read),
  only (keys.Version ∷ keys.Top ∷ keys.Links ∷ keys.Groups ∷ keys.Reporters ∷ keys.Script ∷ []) (keys.Closings ∷ []) found k d (rw is refl) h.7,
)
