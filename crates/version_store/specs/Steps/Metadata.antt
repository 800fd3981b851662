-- What a change makes of the metadata of an object.
use Rattle.std.specs.Prelude.{Some}
use Rattle.kube_objects.specs.declared.objects.Meta.{Meta}
use Rattle.version_store.specs.declared.metadata.MetaChange.{MetaChange}
use Rattle.version_store.specs.declared.metadata.MetaChange.TheVariants as changes

-- the metadata after one change of it
abbrev pub changed_meta : MetaChange → Meta → Meta
changed_meta (changes.Version version) m = record m { version = version }
changed_meta (changes.Deletion version moment) m = record m { version = version; deleted = Some moment }
changed_meta (changes.Identity uid version created deleted) m = record m { uid = uid; version = version; created = created; deleted = deleted }
changed_meta (changes.Creation moment) m = record m { created = moment }
changed_meta (changes.Labels labels) m = record m { labels = labels }
changed_meta (changes.Annotations annotations) m = record m { annotations = annotations }
changed_meta (changes.Finalizers finalizers) m = record m { finalizers = finalizers }
